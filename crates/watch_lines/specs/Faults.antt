-- The faults of a file of watched expressions, as answers tell them.
use Rattle.watch_lines.specs.declared.fault.WatchError.{WatchError}
use Rattle.watch_lines.specs.declared.fault.WatchError.TheVariants.{Fault, Memory}
use Rattle.watch_lines.specs.declared.fault.WatchFault.{WatchFault}

-- what holds of the fault, where there is one
abbrev pub IfFault : (WatchFault → Type 0) → WatchError → Type 0
IfFault P (Fault found) = P found
IfFault P Memory = Unit {0}
