-- How the active patterns grow, and which rules they have.
use Rattle.std.specs.Prelude.{ℕ, List, [], ◌∷◌, ◌++◌, slice_get}
use Rattle.std.specs.Option.{option_map_or}
use Rattle.sch_compiled.specs.declared.parts.PlanRule.{PlanRule}
use Rattle.sch_compiled.specs.declared.parts.PlanPattern.{PlanPattern}

-- the patterns, with the rule as the last one of the last pattern
abbrev pub with_last_rule : List PlanPattern → PlanRule → List PlanPattern
with_last_rule [] rule = []
with_last_rule (pattern ∷ []) rule = record pattern { rules = pattern.rules ++ rule ∷ [] } ∷ []
with_last_rule (pattern ∷ next ∷ patterns) rule = pattern ∷ with_last_rule (next ∷ patterns) rule

-- the rules of a pattern; none where there is no pattern with that place
abbrev pub rules_at : List PlanPattern → ℕ → List PlanRule
rules_at patterns p = option_map_or (λ pattern. pattern.rules) (slice_get patterns p) []
