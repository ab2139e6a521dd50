-- The lines of rules that fire, laid out by the numbers of the rules.
use Rattle.std.specs.Prelude.{◌≡◌, ℕ, List, [], Option, Some, slice_get}
use Rattle.std.specs.Option.{option_map_or}
use Rattle.xp_outcome.specs.Slots.{in_slot}
use Rattle.sch_compiled.specs.declared.parts.PlanRule.{PlanRule}
use Rattle.svrl_out.specs.declared.page.Page.{Page}
use Rattle.svrl_out.specs.Report.{fired_rule}

-- the lines that say that the rule with a number fires
abbrev pub fired_text : List PlanRule → ℕ → List ℕ
fired_text rules r = option_map_or fired_rule (slice_get rules r) []

-- what is laid out for a number are the lines of its rule
abbrev pub AreLaid : List PlanRule → List (Option Page) → Type 0
AreLaid rules laid = (r : ℕ) (lines : Page) → in_slot laid r ≡ Some lines → lines.bytes.items ≡ fired_text rules r
