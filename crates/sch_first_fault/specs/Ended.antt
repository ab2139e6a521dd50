-- How a check of a schema ends.
use Rattle.std.specs.Prelude.{◌≡◌, Option, None, Some, Result, Ok, Err}
use Rattle.sch_model.specs.declared.fault.SchemaError.{SchemaError}
use Rattle.sch_model.specs.declared.fault.SchemaError.TheVariants.{Fault, Memory}
use Rattle.sch_model.specs.declared.fault.SchemaFault.{SchemaFault}

-- a refusal tells the fault that there is, or that there was no memory
abbrev pub Refuses : Option SchemaFault → SchemaError → Type 0
Refuses fault (Fault f) = fault ≡ Some f
Refuses fault Memory = Unit {0}

-- well where there is no fault, and else with the fault; for want of memory it may end without
abbrev pub Ended : Option SchemaFault → Result (Unit {0}) SchemaError → Type 0
Ended fault (Ok _) = fault ≡ None
Ended fault (Err error) = Refuses fault error
