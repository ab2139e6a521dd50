-- Which places the first fault stands after.
use Rattle.std.specs.Prelude.{ℕ, Bool, true, ◌&&◌, ◌||◌, ◌==◌, nat_lt, Option, None, Some}
use Rattle.sch_model.specs.declared.fault.SchemaFault.{SchemaFault}

-- whether there is no fault yet, or only one that stands after the place, or there with a greater number
abbrev pub is_later : ℕ → ℕ → Option SchemaFault → Bool
is_later rule n None = true
is_later rule n (Some f) = nat_lt n f.node || (n == f.node && nat_lt rule f.rule)
