-- The lines of PYX as they are written, each with its line end, and that they are read back.
use Rattle.std.specs.Prelude.{◌≡◌, ℕ, List, [], ◌∷◌, ◌++◌, None, codes}
use Rattle.pyx_core.specs.declared.event.Attr.{Attr}
use Rattle.pyx_core.specs.declared.event.Event.{Event}
use Rattle.pyx_core.specs.declared.event.Event.TheVariants.{Start, End, Chars, Pi, Comment}
use Rattle.pyx_core.specs.declared.mode.Mode.{Mode}
use Rattle.pyx_core.specs.Nesting.{Nest, start, place_after, IsEnd, bare}
use Rattle.pyx_core.specs.Reading.{fault_of, events_of}
use Rattle.pyx_core.specs.Escapes.{escaped}

-- the start of an element
unfoldable pub start_line : List ℕ → List ℕ
start_line name = codes "(" ++ (name ++ codes "\n")

-- an attribute, always with the space
unfoldable pub attr_line : List ℕ → List ℕ → List ℕ
attr_line name value = codes "A" ++ (name ++ (codes " " ++ (escaped value ++ codes "\n")))

-- the end of an element
unfoldable pub end_line : List ℕ → List ℕ
end_line name = codes ")" ++ (name ++ codes "\n")

-- characters, in one line; an empty text has none
unfoldable pub chars_line : List ℕ → List ℕ
chars_line [] = []
chars_line (byte ∷ text) = codes "-" ++ (escaped (byte ∷ text) ++ codes "\n")

-- a processing instruction, always with the space
unfoldable pub pi_line : List ℕ → List ℕ → List ℕ
pi_line target body = codes "?" ++ (target ++ (codes " " ++ (escaped body ++ codes "\n")))

-- a comment
unfoldable pub comment_line : List ℕ → List ℕ
comment_line text = codes "C" ++ (escaped text ++ codes "\n")

-- the lines of attributes
abbrev pub attr_lines : List Attr → List ℕ
attr_lines [] = []
attr_lines (attr ∷ attrs) = attr_line attr.name attr.value ++ attr_lines attrs

-- the lines of an event
abbrev pub event_lines : Event → List ℕ
event_lines (Start name attrs) = start_line name ++ attr_lines attrs
event_lines (End name) = end_line name
event_lines (Chars text) = chars_line text
event_lines (Pi target body) = pi_line target body
event_lines (Comment text) = comment_line text

-- the text of events
abbrev pub text_of : List Event → List ℕ
text_of [] = []
text_of (event ∷ events) = event_lines event ++ text_of events

-- a text has no fault and gives these events
pub record Gives (mode : Mode) (text : List ℕ) (events : List Event) : Type 0 where
  pub good : fault_of mode text ≡ None
  pub events_are : bare (events_of mode text) ≡ events

-- events that nest whole are read back from their text; so are those of any text without fault
pub record WrittenIsReadBack : Type 0 where
  pub nested : (mode : Mode) (events : List Event) → Nest mode start events → IsEnd (place_after mode start events) →
      Gives mode (text_of events) events
  pub of_text : (mode : Mode) (bytes : List ℕ) → fault_of mode bytes ≡ None →
      Gives mode (text_of (bare (events_of mode bytes))) (bare (events_of mode bytes))
