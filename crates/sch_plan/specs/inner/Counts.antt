-- Counts of rules and patterns that fit 32 bits.
use Rattle.std.specs.Prelude.{◌≡◌, ◌+◌, ◌<◌, ◌^◌, ℕ, List, length, slice_get, Some}
use Rattle.sch_compiled.specs.declared.parts.PlanPattern.{PlanPattern}
use Rattle.sch_compiled.specs.declared.parts.PlanRule.{PlanRule}

pub record IsRuleCounted (lets : ℕ) (rule : PlanRule) : Type 0 where
  pub assertions : length rule.assertions < 2 ^ 32
  pub slots : lets + length rule.lets < 2 ^ 32

pub record IsPatternCounted (lets : ℕ) (pattern : PlanPattern) : Type 0 where
  pub few : length pattern.rules < 2 ^ 32
  pub rules : (r : ℕ) (rule : PlanRule) → slice_get pattern.rules r ≡ Some rule → IsRuleCounted lets rule

pub record ArePatternsCounted (lets : ℕ) (patterns : List PlanPattern) : Type 0 where
  pub few : length patterns < 2 ^ 32
  pub each : (p : ℕ) (pattern : PlanPattern) → slice_get patterns p ≡ Some pattern → IsPatternCounted lets pattern
