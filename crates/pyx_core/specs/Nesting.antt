-- How the events of a text nest: those of a document (XML 1.0, section 2.1), or of one item of a document.
use Rattle.std.specs.Prelude.{◌≡◌, ◌≢◌, ℕ, Bool, true, false, ◌&&◌, ◌||◌, List, [], ◌∷◌, ◌++◌, map, None}
use Rattle.std.specs.List.{list_all}
use Rattle.std.specs.Str.{chars, is_utf8}
use Rattle.sch_base.specs.Lists.{is_nil}
use Rattle.sch_base.specs.Characters.{is_xml_char}
use Rattle.pyx_core.specs.declared.event.Attr.{Attr}
use Rattle.pyx_core.specs.declared.event.Event.{Event}
use Rattle.pyx_core.specs.declared.event.Event.TheVariants.{Start, End, Chars, Pi, Comment}
use Rattle.pyx_core.specs.declared.event.Located.{Located}
use Rattle.pyx_core.specs.declared.mode.Mode.{Mode}
use Rattle.pyx_core.specs.Before.{is_fragment, outer}
use Rattle.pyx_core.specs.LineTable.{is_qname, is_target}
use Rattle.pyx_core.specs.Reading.{completed, events_of, fault_of}

-- a place among the events: the names of the elements that are open there, the innermost first, whether the top item
-- has begun (in a document the top element), and whether characters stand in front of the place
pub record Place : Type 0 where
  pub opened : List (List ℕ)
  pub begun : Bool
  pub after_chars : Bool

-- the place in front of all events
abbrev pub start : Place
start = record { opened = []; begun = false; after_chars = false }

-- the place after an event
abbrev pub after : Mode → Place → Event → Place
after mode place (Start name attrs) = record { opened = name ∷ place.opened; begun = true; after_chars = false }
after mode place (End name) = record { opened = outer place.opened; begun = place.begun; after_chars = false }
after mode place (Chars text) = record { opened = place.opened; begun = true; after_chars = true }
after mode place (Pi target body) =
    record { opened = place.opened; begun = is_fragment mode || place.begun; after_chars = false }
after mode place (Comment text) =
    record { opened = place.opened; begun = is_fragment mode || place.begun; after_chars = false }

-- an item that the text may have once at its top may stand here
abbrev pub HasRoom : Place → Type 0
HasRoom place = (is_nil place.opened && place.begun) ≡ false

-- the bytes are UTF-8 and spell Chars: XML 1.0, section 2.2
abbrev pub of_chars : List ℕ → Bool
of_chars text = is_utf8 text && list_all is_xml_char (chars text)

-- a QName: Namespaces in XML 1.0, section 4
abbrev pub is_name : List ℕ → Bool
is_name text = of_chars text && is_qname text

-- the target of a processing instruction
abbrev pub is_pi_name : List ℕ → Bool
is_pi_name text = of_chars text && is_target text

abbrev pub is_attr : Attr → Bool
is_attr attr = is_name attr.name && of_chars attr.value

-- an element begins
pub record StartFits (place : Place) (name : List ℕ) (attrs : List Attr) : Type 0 where
  pub room : HasRoom place
  pub named : is_name name ≡ true
  pub attributes : list_all is_attr attrs ≡ true

-- characters, of which there is at least one: in a document inside an element, and never after characters
pub record CharsFit (mode : Mode) (place : Place) (text : List ℕ) : Type 0 where
  pub inside : is_fragment mode ≡ false → is_nil place.opened ≡ false
  pub room : is_fragment mode ≡ true → HasRoom place
  pub apart : place.after_chars ≡ false
  pub some : text ≢ []
  pub made : of_chars text ≡ true

-- a processing instruction
pub record PiFits (mode : Mode) (place : Place) (target body : List ℕ) : Type 0 where
  pub room : is_fragment mode ≡ true → HasRoom place
  pub named : is_pi_name target ≡ true
  pub made : of_chars body ≡ true

-- a comment
pub record CommentFits (mode : Mode) (place : Place) (text : List ℕ) : Type 0 where
  pub room : is_fragment mode ≡ true → HasRoom place
  pub made : of_chars text ≡ true

-- an event may come at a place; an end closes the innermost element
abbrev pub Fits : Mode → Place → Event → Type 0
Fits mode place (Start name attrs) = StartFits place name attrs
Fits mode place (End name) = place.opened ≡ name ∷ outer place.opened
Fits mode place (Chars text) = CharsFit mode place text
Fits mode place (Pi target body) = PiFits mode place target body
Fits mode place (Comment text) = CommentFits mode place text

-- each of the events may come after those before it
abbrev pub Nest : Mode → Place → List Event → Type 0
Nest mode place [] = Unit {0}
Nest mode place (event ∷ events) = Fits mode place event × Nest mode (after mode place event) events

-- the place after all of the events
abbrev pub place_after : Mode → Place → List Event → Place
place_after mode place [] = place
place_after mode place (event ∷ events) = place_after mode (after mode place event) events

-- the text may end here: the top item is there, and no element is open
pub record IsEnd (place : Place) : Type 0 where
  pub begun : place.begun ≡ true
  pub closed : place.opened ≡ []

-- the events without their lines
abbrev pub bare : List Located → List Event
bare events = map (λ found. found.event) events

-- the completed events of any bytes nest, and so do the events of a text, after which it may end; events that nest
-- do so up to each of them and from there on
pub record EventsNest : Type 0 where
  pub so_far : (mode : Mode) (bytes : List ℕ) → Nest mode start (bare (completed mode bytes))
  pub in_all : (mode : Mode) (bytes : List ℕ) → fault_of mode bytes ≡ None →
      Nest mode start (bare (events_of mode bytes)) × IsEnd (place_after mode start (bare (events_of mode bytes)))
  pub parts : (mode : Mode) (place : Place) (front back : List Event) → Nest mode place (front ++ back) →
      Nest mode place front × Nest mode (place_after mode place front) back
  pub joined : (mode : Mode) (place : Place) (front back : List Event) →
      place_after mode place (front ++ back) ≡ place_after mode (place_after mode place front) back
