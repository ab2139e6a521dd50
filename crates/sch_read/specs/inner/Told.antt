-- What a check answers: the first fault, or that there is none and which names are used now.
use Rattle.std.specs.Prelude.{◌≡◌, List, ◌++◌, Option, None, Some, Result, Ok, Err, OnOk}
use Rattle.sch_model.specs.declared.fault.SchemaError.{SchemaError}
use Rattle.sch_model.specs.declared.fault.SchemaError.TheVariants.{Fault, Memory}
use Rattle.sch_model.specs.declared.fault.SchemaFault.{SchemaFault}
use Rattle.sch_rules.specs.Keys.{Key}

-- a refusal is for this fault, or for want of memory
abbrev pub IsRefusal : SchemaFault → SchemaError → Type 0
IsRefusal fault (Fault f) = f ≡ fault
IsRefusal fault Memory = Unit {0}

-- a check ends well where there is no fault, and else with the fault; for want of memory it may end without
abbrev pub Refuses : Option SchemaFault → Result (Unit {0}) SchemaError → Type 0
Refuses fault (Ok _) = fault ≡ None
Refuses fault (Err (Fault f)) = fault ≡ Some f
Refuses fault (Err Memory) = Unit {0}

-- with the names that are used before and after it
pub record Told (fault : Option SchemaFault) (keys old new : List Key) (result : Result (Unit {0}) SchemaError) : Type 0 where
  pub refuses : Refuses fault result
  pub used : OnOk result (new ≡ old ++ keys)
