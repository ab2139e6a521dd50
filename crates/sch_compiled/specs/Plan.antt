-- What a plan holds at first, and the rules of its patterns.
use Rattle.std.specs.Prelude.{ℕ, List, [], None}
use Rattle.sch_compiled.specs.declared.parts.PlanRule.{PlanRule}
use Rattle.sch_compiled.specs.declared.plan.Plan.{Plan}
use Rattle.sch_compiled.specs.Patterns.{rules_at}

-- the plan that holds nothing
abbrev pub empty_plan : Plan
empty_plan = record { title = None; schema_version = None; phase = None; namespaces = []; lets = []; patterns = [] }

-- the rules of an active pattern; none where there is no pattern with that place
abbrev pub rules_of : Plan → ℕ → List PlanRule
rules_of plan p = rules_at plan.patterns p
