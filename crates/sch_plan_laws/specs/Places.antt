-- A plan doesn't depend on the nodes at which the parts of its schema stand.
use Rattle.std.specs.Prelude.{◌≡◌, ℕ, List, Ok}
use Rattle.sch_model.specs.Placeless.{placeless_flat}
use Rattle.sch_model.specs.declared.flat.FlatSchema.{FlatSchema}
use Rattle.sch_compiled.specs.declared.plan.Plan.{Plan}
use Rattle.sch_plan.specs.Compiled.{compiled}

-- two schemas that are the same but for the places of their parts have the same plan for each phase
abbrev pub PlansNeedNoPlaces : Type 0
PlansNeedNoPlaces = (flat other : FlatSchema) (phase : List ℕ) (plan : Plan) → placeless_flat flat ≡ placeless_flat other →
    compiled flat phase (Ok plan) → compiled other phase (Ok plan)
