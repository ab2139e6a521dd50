-- The answers of calls as the ends of runs.
use Rattle.std.specs.Prelude.{Result, Ok, Err}
use Rattle.std.specs.declared.alloc.AllocError.{AllocError}
use Rattle.xp_outcome.specs.Running.{Stop, faulted, no_memory}
use Rattle.xp_values.specs.declared.values.EvalFault.{EvalFault}
use Rattle.xp_values.specs.declared.values.EvalError.{EvalError}
use Rattle.xp_values.specs.declared.values.EvalError.TheVariants.{Fault, Memory}

-- why a call stopped
abbrev pub stop_of : EvalError → Stop EvalFault
stop_of (Fault f) = faulted f
stop_of Memory = no_memory

abbrev pub shown : {A : Type 0} → Result A EvalError → Result A (Stop EvalFault)
shown (Ok v) = Ok v
shown (Err e) = Err (stop_of e)

-- an answer whose only error is want of memory
abbrev pub shown_alloc : {A : Type 0} → Result A AllocError → Result A (Stop EvalFault)
shown_alloc (Ok v) = Ok v
shown_alloc (Err _) = Err no_memory
