-- What is kept of the lines that were read, for judging the next one.
use Rattle.std.specs.Prelude.{◌≡◌, ℕ, Bool, true, false, ◌&&◌, ◌==◌, List, [], ◌∷◌, ◌++◌, Option, None, Some, Result, Ok, Err, MatchResult}
use Rattle.std.specs.List.{list_all}
use Rattle.pyx_core.specs.declared.event.Located.{Located}
use Rattle.pyx_core.specs.declared.fault.PyxKind.{PyxKind}
use Rattle.pyx_core.specs.declared.line_table.Line.{Line}
use Rattle.pyx_core.specs.declared.line_table.Line.TheVariants.{Attribute, Chars}
use Rattle.pyx_core.specs.declared.mode.Mode.{Mode}
use Rattle.pyx_core.specs.declared.standing.Standing.{Standing}
use Rattle.pyx_core.specs.Before.{outermost_first, open_names, at_top, is_innermost, has_item, pending, closed, lacking}
use Rattle.pyx_core.specs.Nesting.{is_name}
use Rattle.pyx_core.specs.Reading.{judge, ended}
use Rattle.pyx_core.specs.Fronts.{IsFront}
use Rattle.pyx_core.specs.inner.Begun.{Collected}

-- the elements that are open after these lines have QNames, as after good lines
abbrev pub AreNamed : List Line → Type 0
AreNamed before = list_all is_name (open_names before) ≡ true

-- whether a line ends the innermost of the elements with these names: it is `)` (41) and the name
abbrev pub ends_innermost : List ℕ → List (List ℕ) → Bool
ends_innermost [] names = false
ends_innermost (mark ∷ name) names = mark == 41 && is_innermost name names

-- these good lines were read, newest first, and these events were taken
pub record HasRead (standing : Standing) (mode : Mode) (taken : List Located) (before : List Line) : Type 0 where
  pub mode_is : standing.mode ≡ mode
  pub opened : standing.opened.items ≡ outermost_first (open_names before)
  pub named : AreNamed before
  pub item : standing.has_item ≡ has_item mode before
  pub told : Collected standing.events taken (closed mode before) (pending mode before)

-- want of memory left a front of the events that the lines complete
abbrev pub Drops : Standing → Mode → List Located → List Line → Type 0
Drops standing mode taken before = IsFront (taken ++ standing.events.waiting.items) (closed mode before)

-- a good line was read
abbrev pub Settles : {T E : Type 0} → Standing → Mode → List Located → List Line → Line → Result T E → Type 0
Settles standing mode taken before line result =
    MatchResult result (λ _. HasRead standing mode taken (line ∷ before)) (λ _. Drops standing mode taken (line ∷ before))

-- a line was judged, and read if it is good
abbrev pub TakesLine : {E : Type 0} → Standing → Mode → List Located → List Line → Result Line PyxKind → Result (Option PyxKind) E → Type 0
TakesLine standing mode taken before (Ok line) result =
    MatchResult result (λ found. (found ≡ None) × HasRead standing mode taken (line ∷ before)) (λ _. Drops standing mode taken (line ∷ before))
TakesLine standing mode taken before (Err kind) result =
    MatchResult result (λ found. (found ≡ Some kind) × HasRead standing mode taken before) (λ _. Drops standing mode taken before)

-- the events that were taken and those that wait
abbrev pub Has : Standing → List Located → List Located → Type 0
Has standing taken events = taken ++ standing.events.waiting.items ≡ events

-- a good last line was judged with the end after it, and read if that is good too: the rule that is broken there
abbrev pub TakesGoodLast : {E : Type 0} → Standing → Mode → List Located → List Line → Line → Option PyxKind → Result (Option PyxKind) E → Type 0
TakesGoodLast standing mode taken before line (Some kind) result =
    MatchResult result (λ found. (found ≡ Some kind) × Has standing taken (closed mode before))
    (λ _. IsFront (taken ++ standing.events.waiting.items) (closed mode before))
TakesGoodLast standing mode taken before line None result =
    MatchResult result (λ found. (found ≡ None) × Has standing taken (ended mode (line ∷ before)))
    (λ _. IsFront (taken ++ standing.events.waiting.items) (ended mode (line ∷ before)))

-- a last line was judged, and the end after it
abbrev pub TakesLast : {E : Type 0} → Standing → Mode → List Located → List Line → Result Line PyxKind → Result (Option PyxKind) E → Type 0
TakesLast standing mode taken before (Ok line) result =
    TakesGoodLast standing mode taken before line (lacking mode (line ∷ before)) result
TakesLast standing mode taken before (Err kind) result =
    MatchResult result (λ found. (found ≡ Some kind) × Has standing taken (closed mode before))
    (λ _. IsFront (taken ++ standing.events.waiting.items) (closed mode before))

-- the line of an attribute
abbrev pub attribute_line : List ℕ → List ℕ → Line
attribute_line name value = Attribute (record { name = name; value = value })

-- a line that is good by its bytes is characters within an element
pub record IsInside (mode : Mode) (before : List Line) (bytes text : List ℕ) : Type 0 where
  pub inside : at_top before ≡ false
  pub good : judge mode before bytes ≡ Ok (Chars text)
