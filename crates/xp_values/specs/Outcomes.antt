-- Answers of calls against values and faults as they are defined.
use Rattle.std.specs.Prelude.{◌≡◌, Result, Ok, Err}
use Rattle.xp_values.specs.declared.values.EvalFault.{EvalFault}
use Rattle.xp_values.specs.declared.values.EvalError.{EvalError}
use Rattle.xp_values.specs.declared.values.EvalError.TheVariants.{Fault, Memory}

-- the answer is the value or the fault that is meant; want of memory is free
abbrev pub Gives : {A : Type 0} → Result A EvalError → Result A EvalFault → Type 0
Gives (Ok v) meant = meant ≡ Ok v
Gives (Err (Fault fault)) meant = meant ≡ Err fault
Gives (Err Memory) meant = Unit {0}

-- what comes of a value, if there is no fault before
abbrev pub then_of : {A B : Type 0} → Result A EvalFault → (A → Result B EvalFault) → Result B EvalFault
then_of (Ok v) more = more v
then_of (Err fault) more = Err fault
