-- Whether the program can count what the rules of a pattern hold.
use Rattle.std.specs.Prelude.{◌≡◌, ℕ, ◌+◌, ◌^◌, ◌<◌, List, length, Some, slice_get}
use Rattle.sch_compiled.specs.declared.parts.PlanRule.{PlanRule}

-- the counts of a rule fit 32 bits, behind so many lets in force
pub record IsRuleCounted (count : ℕ) (rule : PlanRule) : Type 0 where
  pub asserts_few : length rule.assertions < 2 ^ 32
  pub slots_few : count + length rule.lets < 2 ^ 32

abbrev pub AreRulesCounted : ℕ → List PlanRule → Type 0
AreRulesCounted count rules = (r : ℕ) (rule : PlanRule) → slice_get rules r ≡ Some rule → IsRuleCounted count rule
