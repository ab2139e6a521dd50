-- How a scope stands in the tables of an `Env`.
use Rattle.std.specs.Prelude.{ℕ, List, String}
use Rattle.std.specs.String.{string_bytes}
use Rattle.std.specs.declared.alloc.Global.{Global}
use Rattle.xp_types.specs.declared.env.Variable.{Variable}
use Rattle.xp_types.specs.Scope.{Binding, Named}

-- what an entry of a table of the program is seen as
abbrev pub binding_of : String Global × List ℕ → Binding
binding_of e = record { prefix = string_bytes e.0; uri = e.1 }

abbrev pub variable_in : String Global × Variable → Named
variable_in e = record { name = string_bytes e.0; place = e.1.slot; type = e.1.ty }
