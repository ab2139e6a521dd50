-- The faults of a script, as answers tell them.
use Rattle.edit_script.specs.declared.fault.ScriptError.{ScriptError}
use Rattle.edit_script.specs.declared.fault.ScriptError.TheVariants.{Fault, Memory}
use Rattle.edit_script.specs.declared.fault.ScriptFault.{ScriptFault}

-- what holds of the fault, where there is one
abbrev pub IfFault : (ScriptFault → Type 0) → ScriptError → Type 0
IfFault P (Fault found) = P found
IfFault P Memory = Unit {0}
