-- Stages that go on with a value, or halt the run.
use Rattle.std.proofs.Common.{◌≡◌, List, [], ◌++◌, ℕ, Bool, true, false, Option, None, Some, refl}
use Rattle.sch_stops.specs.Output.{Output}
use Rattle.sch_loading.specs.Stages.{Is, Stage, Then, goes, halt_at, halt_if, halts}
use Rattle.sch_loading.proofs.StageLemmas.{goes-first, halts-first}
use Rattle.sch_cli.specs.Behaviours.{Apart}

-- a stage goes on with a value of which something holds, or halts the run
pub data Ends {A : Type 0} (stage : Stage A) (holds : A → Type 0) : Type 0 where
  on_with : (opened : List (List ℕ)) (value : A) → stage opened (goes value) → holds value → Ends stage holds
  halted : (opened : List (List ℕ)) (output : Output) → stage opened (halts output) → Ends stage holds

-- whatever the value is
abbrev pub Anything : {A : Type 0} → A → Type 0
Anything value = Unit {0}

-- and so two stages one after the other
pub then-ends : {A B : Type 0} (first : Stage A) (next : A → Stage B) (holds : A → Type 0) (later : B → Type 0) → Ends first holds → ((value : A) → holds value → Ends (next value) later) →
    Ends (Then first next) later
then-ends {A} {B} first next holds later (on_with before value begins is) each = by (each value is)
  where
    by : Ends (next value) later → Ends (Then first next) later
    by (on_with after made on so) = on_with (before ++ after) made (goes-first first next before after value (goes made) begins on) so
    by (halted after output on) = halted (before ++ after) output (goes-first first next before after value (halts output) begins on)
then-ends first next holds later (halted opened output stops) each = halted opened output (halts-first first next opened output stops)

-- stages that are decided
pub goes-ends : {A : Type 0} (value : A) (holds : A → Type 0) → holds value → Ends (Is (goes value)) holds
goes-ends value holds is = on_with [] value (refl, refl) is

pub halt-if-ends : {A : Type 0} (test : Bool) (output : Output) (value : A) (holds : A → Type 0) → (test ≡ false → holds value) → Ends (Is (halt_if test output value)) holds
halt-if-ends true output value holds is = halted [] output (refl, refl)
halt-if-ends false output value holds is = on_with [] value (refl, refl) (is refl)

pub halt-at-ends : {A F : Type 0} (fault : Option F) (output : F → Output) (value : A) (holds : A → Type 0) → holds value → Ends (Is (halt_at fault output value)) holds
halt-at-ends (Some fault) output value holds is = halted [] (output fault) (refl, refl)
halt-at-ends None output value holds is = on_with [] value (refl, refl) is

-- stages over another shelf
pub apart-ends : {A : Type 0} (stage : Stage A) (holds : A → Type 0) → Ends stage holds → Ends (Apart stage) holds
apart-ends stage holds (on_with opened value goes_on is) = on_with [] value (refl, opened, goes_on) is
apart-ends stage holds (halted opened output stops) = halted [] output (refl, opened, stops)
