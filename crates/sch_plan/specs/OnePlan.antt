-- A schema and the word for a phase have one plan, or one first broken rule.
use Rattle.std.specs.Prelude.{◌≡◌, ℕ, List, Result}
use Rattle.sch_compiled.specs.declared.plan.Plan.{Plan}
use Rattle.sch_model.specs.declared.fault.SchemaFault.{SchemaFault}
use Rattle.sch_model.specs.declared.flat.FlatSchema.{FlatSchema}
use Rattle.sch_plan.specs.Compiled.{compiled}

abbrev pub OnePlan : Type 0
OnePlan = (schema : FlatSchema) (phase : List ℕ) (r s : Result Plan SchemaFault) → compiled schema phase r → compiled schema phase s → r ≡ s
