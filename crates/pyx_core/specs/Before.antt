-- Where a line stands: after the good lines before it, which are listed newest first.
use Rattle.std.specs.Prelude.{ℕ, suc, Bool, true, false, not, ◌&&◌, if◌then◌else◌, List, [], ◌∷◌, ◌++◌, length, Option, None, Some}
use Rattle.std.specs.List.{list_any, list_all}
use Rattle.std.specs.Option.{option_to_list}
use Rattle.std.specs.Str.{chars, bytes_eq}
use Rattle.sch_base.specs.Lists.{is_nil}
use Rattle.sch_base.specs.Characters.{is_whitespace}
use Rattle.pyx_core.specs.declared.event.Attr.{Attr}
use Rattle.pyx_core.specs.declared.event.Event.{Event}
use Rattle.pyx_core.specs.declared.event.Event.TheVariants as event
use Rattle.pyx_core.specs.declared.event.Located.{Located}
use Rattle.pyx_core.specs.declared.fault.PyxKind.{PyxKind}
use Rattle.pyx_core.specs.declared.fault.PyxKind.TheVariants.{AttributePlace, WrongEnd, TextOutside, SecondRoot, NoRoot, Unfinished}
use Rattle.pyx_core.specs.declared.line_table.Line.{Line}
use Rattle.pyx_core.specs.declared.line_table.Line.TheVariants.{Skipped, Start, Attribute, End, Chars, Pi, Comment}
use Rattle.pyx_core.specs.declared.mode.Mode.{Mode}
use Rattle.pyx_core.specs.declared.mode.Mode.TheVariants.{Document, Fragment}

abbrev pub is_fragment : Mode → Bool
is_fragment Document = false
is_fragment Fragment = true

-- the names of the elements round the innermost one
abbrev pub outer : List (List ℕ) → List (List ℕ)
outer [] = []
outer (name ∷ names) = names

-- the names of the elements that are open after these lines, the innermost first
abbrev pub open_names : List Line → List (List ℕ)
open_names [] = []
open_names (Skipped ∷ before) = open_names before
open_names (Start name ∷ before) = name ∷ open_names before
open_names (Attribute attr ∷ before) = open_names before
open_names (End name ∷ before) = outer (open_names before)
open_names (Chars text ∷ before) = open_names before
open_names (Pi target body ∷ before) = open_names before
open_names (Comment text ∷ before) = open_names before

-- the names with the outermost first
abbrev pub outermost_first : List (List ℕ) → List (List ℕ)
outermost_first [] = []
outermost_first (name ∷ names) = outermost_first names ++ name ∷ []

-- whether no element is open
abbrev pub at_top : List Line → Bool
at_top before = is_nil (open_names before)

-- whether the innermost open element has the name
abbrev pub is_innermost : List ℕ → List (List ℕ) → Bool
is_innermost name [] = false
is_innermost name (top ∷ names) = bytes_eq top name

-- whether a start line stands before, with nothing but attribute lines and skipped lines between
abbrev pub takes_attribute : List Line → Bool
takes_attribute [] = false
takes_attribute (Skipped ∷ before) = takes_attribute before
takes_attribute (Start name ∷ before) = true
takes_attribute (Attribute attr ∷ before) = takes_attribute before
takes_attribute (End name ∷ before) = false
takes_attribute (Chars text ∷ before) = false
takes_attribute (Pi target body ∷ before) = false
takes_attribute (Comment text ∷ before) = false

-- whether a line stands for an item that the text may have once at its top, if no element is open: an element; in a
-- fragment also a text that isn't empty, a comment and a processing instruction
abbrev pub makes_item : Mode → Line → Bool
makes_item mode Skipped = false
makes_item mode (Start name) = true
makes_item mode (Attribute attr) = false
makes_item mode (End name) = false
makes_item mode (Chars text) = is_fragment mode && not (is_nil text)
makes_item mode (Pi target body) = is_fragment mode
makes_item mode (Comment text) = is_fragment mode

-- whether there is such an item
abbrev pub has_item : Mode → List Line → Bool
has_item mode before = list_any (makes_item mode) before

-- whether a line that makes an item would be a second one at the top
abbrev pub is_second : Mode → List Line → Line → Bool
is_second mode before line = makes_item mode line && at_top before && has_item mode before

-- an event in its line
abbrev pub located : ℕ → Event → Located
located number what = record { line = number; event = what }

-- whether these lines end outside the document element
abbrev pub is_outside : Mode → List Line → Bool
is_outside mode before = not (is_fragment mode) && at_top before

-- the text of a character line; outside the document element there is none but whitespace, which is dropped
abbrev pub kept : Bool → List ℕ → List ℕ
kept outside text = if outside then [] else text

-- an attribute after those of a start
abbrev pub attr_onto : Attr → Event → Event
attr_onto attr (event.Start name attrs) = event.Start name (attrs ++ attr ∷ [])
attr_onto attr (event.End name) = event.End name
attr_onto attr (event.Chars text) = event.Chars text
attr_onto attr (event.Pi target body) = event.Pi target body
attr_onto attr (event.Comment text) = event.Comment text

abbrev pub with_attr : Attr → Option Located → Option Located
with_attr attr None = None
with_attr attr (Some begun) = Some (located begun.line (attr_onto attr begun.event))

-- characters begin in a line, where there are any
abbrev pub begin_text : ℕ → List ℕ → Option Located
begin_text number [] = None
begin_text number (b ∷ text) = Some (located number (event.Chars (b ∷ text)))

-- characters of a line after an event: they join characters
abbrev pub text_onto : ℕ → List ℕ → ℕ → Event → Option Located
text_onto number text line (event.Start name attrs) = begin_text number text
text_onto number text line (event.End name) = begin_text number text
text_onto number text line (event.Chars had) = Some (located line (event.Chars (had ++ text)))
text_onto number text line (event.Pi target body) = begin_text number text
text_onto number text line (event.Comment comment) = begin_text number text

abbrev pub with_text : ℕ → List ℕ → Option Located → Option Located
with_text number text None = begin_text number text
with_text number text (Some begun) = text_onto number text begun.line begun.event

-- the event that these lines have begun and that the next line may continue: a start, which takes attributes, or
-- characters, which take characters; it stands in the line where it begins, lines being counted from 1
abbrev pub pending : Mode → List Line → Option Located
pending mode [] = None
pending mode (Skipped ∷ before) = pending mode before
pending mode (Start name ∷ before) = Some (located (suc (length before)) (event.Start name []))
pending mode (Attribute attr ∷ before) = with_attr attr (pending mode before)
pending mode (End name ∷ before) = None
pending mode (Chars text ∷ before) = with_text (suc (length before)) (kept (is_outside mode before) text) (pending mode before)
pending mode (Pi target body ∷ before) = None
pending mode (Comment text ∷ before) = None

abbrev pub is_chars : Event → Bool
is_chars (event.Start name attrs) = false
is_chars (event.End name) = false
is_chars (event.Chars text) = true
is_chars (event.Pi target body) = false
is_chars (event.Comment text) = false

-- whether characters are begun
abbrev pub is_text : Option Located → Bool
is_text None = false
is_text (Some begun) = is_chars begun.event

-- a begun event that characters complete: any but characters
abbrev pub but_text : Option Located → List Located
but_text begun = if is_text begun then [] else option_to_list begun

-- the events that a line completes: the begun one that it doesn't continue, and its own if no line can continue it
abbrev pub completed_by : Mode → List Line → Line → List Located
completed_by mode before Skipped = []
completed_by mode before (Start name) = option_to_list (pending mode before)
completed_by mode before (Attribute attr) = []
completed_by mode before (End name) =
    option_to_list (pending mode before) ++ located (suc (length before)) (event.End name) ∷ []
completed_by mode before (Chars text) = but_text (pending mode before)
completed_by mode before (Pi target body) =
    option_to_list (pending mode before) ++ located (suc (length before)) (event.Pi target body) ∷ []
completed_by mode before (Comment text) =
    option_to_list (pending mode before) ++ located (suc (length before)) (event.Comment text) ∷ []

-- the events that these lines complete
abbrev pub closed : Mode → List Line → List Located
closed mode [] = []
closed mode (line ∷ before) = closed mode before ++ completed_by mode before line

-- the rule that a line breaks after these lines
abbrev pub misplaced : Mode → List Line → Line → Option PyxKind
misplaced mode before Skipped = None
misplaced mode before (Start name) = if is_second mode before (Start name) then Some SecondRoot else None
misplaced mode before (Attribute attr) = if takes_attribute before then None else Some AttributePlace
misplaced mode before (End name) = if is_innermost name (open_names before) then None else Some WrongEnd
misplaced Document before (Chars text) =
    if is_outside Document before && not (list_all is_whitespace (chars text)) then Some TextOutside else None
misplaced Fragment before (Chars text) =
    if is_second Fragment before (Chars text) && not (is_text (pending Fragment before)) then Some SecondRoot else None
misplaced mode before (Pi target body) = if is_second mode before (Pi target body) then Some SecondRoot else None
misplaced mode before (Comment text) = if is_second mode before (Comment text) then Some SecondRoot else None

-- the rule that the text breaks if it ends after these lines
abbrev pub lacking : Mode → List Line → Option PyxKind
lacking mode before =
    if has_item mode before then (if at_top before then None else Some Unfinished) else Some NoRoot
