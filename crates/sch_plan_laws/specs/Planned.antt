-- Each schema and phase have a plan, or a first broken rule.
use Rattle.std.specs.Prelude.{ℕ, List, Result}
use Rattle.sch_compiled.specs.declared.plan.Plan.{Plan}
use Rattle.sch_model.specs.declared.fault.SchemaFault.{SchemaFault}
use Rattle.sch_model.specs.declared.flat.FlatSchema.{FlatSchema}
use Rattle.sch_plan.specs.Compiled.{compiled}

-- a schema and a word for a phase have a plan, or a first broken rule
abbrev pub EachPhaseIsCompiled : Type 0
EachPhaseIsCompiled = (flat : FlatSchema) (phase : List ℕ) → (planned : Result Plan SchemaFault) × compiled flat phase planned
