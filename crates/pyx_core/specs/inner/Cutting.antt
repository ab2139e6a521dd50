-- What is kept of a text that comes in pieces.
use Rattle.std.specs.Prelude.{◌≡◌, ◌<◌, ◌-◌, ◌^◌, ℕ, suc, List, [], ◌∷◌, ◌++◌, length, Option, None, Some, Result, Ok, Err, MatchResult}
use Rattle.pyx_core.specs.declared.event.Located.{Located}
use Rattle.pyx_core.specs.declared.fault.PyxFault.{PyxFault}
use Rattle.pyx_core.specs.declared.fault.PyxKind.{PyxKind}
use Rattle.pyx_core.specs.declared.line_table.Line.{Line}
use Rattle.pyx_core.specs.declared.cutting.Cutting.{Cutting}
use Rattle.pyx_core.specs.declared.mode.Mode.{Mode}
use Rattle.pyx_core.specs.Before.{closed}
use Rattle.pyx_core.specs.Lines.{unended}
use Rattle.pyx_core.specs.Reading.{fault_in, sound, so_far, completed, fault_so_far, fault_of, events_before_fault}
use Rattle.pyx_core.specs.inner.Standing.{HasRead, Drops, Has}
use Rattle.pyx_core.specs.Fronts.{IsFront}

-- these good lines have ended, newest first, and the half of a line came after them
pub record StandsAt (lines : Cutting) (mode : Mode) (taken : List Located) (before : List Line) (half : List ℕ) : Type 0 where
  pub reads : HasRead lines.standing mode taken before
  pub count : lines.count ≡ length before
  pub half_is : lines.half.items ≡ half

-- a fault in a line, if there is one
abbrev pub fault_if : ℕ → Option PyxKind → Option PyxFault
fault_if number None = None
fault_if number (Some kind) = Some (fault_in number kind)

-- a line ended, and was read if it is good
abbrev pub Cuts : {E : Type 0} → Cutting → Mode → List Located → List Line → Result Line PyxKind → Result (Option PyxFault) E → Type 0
Cuts lines mode taken before (Ok line) result =
    MatchResult result (λ found. (found ≡ None) × StandsAt lines mode taken (line ∷ before) [])
    (λ _. Drops lines.standing mode taken (line ∷ before))
Cuts lines mode taken before (Err kind) result =
    MatchResult result (λ found. (found ≡ Some (fault_in (suc (length before)) kind)) × Has lines.standing taken (closed mode before))
    (λ _. Drops lines.standing mode taken before)

-- these bytes were fed, of which no line that has ended has a fault, and these events were taken
pub record Keeps (lines : Cutting) (mode : Mode) (fed : List ℕ) (taken : List Located) : Type 0 where
  pub before : List Line
  pub good : so_far mode fed ≡ sound before
  pub stands : StandsAt lines mode taken before (unended fed)
  pub few : length fed < 2 ^ 64 - 1

abbrev pub FedTo : Cutting → Mode → List ℕ → List Located → Option PyxFault → Type 0
FedTo lines mode fed taken None = Keeps lines mode fed taken
FedTo lines mode fed taken (Some fault) =
    (fault_so_far mode fed ≡ Some fault) × Has lines.standing taken (completed mode fed)

-- these bytes were fed in all
abbrev pub Fed : {E : Type 0} → Cutting → Mode → List ℕ → List Located → Result (Option PyxFault) E → Type 0
Fed lines mode fed taken result =
    MatchResult result (FedTo lines mode fed taken) (λ _. IsFront (taken ++ lines.standing.events.waiting.items) (completed mode fed))

-- these bytes are the whole text
abbrev pub Finished : {E : Type 0} → Cutting → Mode → List ℕ → List Located → Result (Option PyxFault) E → Type 0
Finished lines mode fed taken result =
    MatchResult result (λ found. (found ≡ fault_of mode fed) × Has lines.standing taken (events_before_fault mode fed))
    (λ _. IsFront (taken ++ lines.standing.events.waiting.items) (events_before_fault mode fed))
