-- What is kept while nodes are matched against the contexts of rules.
use Rattle.std.specs.Prelude.{◌≡◌, ℕ, List, Some, slice_get}
use Rattle.doc_tree.specs.Table.{Contents}
use Rattle.xp_meaning.specs.Evaluation.{Lets}
use Rattle.xslt_match.specs.declared.kept.KeptSteps.{KeptSteps}
use Rattle.xslt_match.specs.Kept.{IsKeptFor}
use Rattle.sch_compiled.specs.declared.parts.PlanRule.{PlanRule}
use Rattle.sch_compiled.specs.declared.plan.Plan.{Plan}
use Rattle.sch_compiled.specs.Plan.{rules_of}
use Rattle.rule_run.specs.declared.kept_matches.KeptMatches.{KeptMatches}
use Rattle.rule_run.specs.Classes.{AreKnown}

-- what is kept of the steps of each of some rules is kept for its context
abbrev pub AreStepsKept : Contents → Lets → List PlanRule → List KeptSteps → Type 0
AreStepsKept C L rules kept = (r : ℕ) (rule : PlanRule) (steps : KeptSteps) → slice_get rules r ≡ Some rule → slice_get kept r ≡ Some steps → IsKeptFor C L rule.context steps

-- what is kept of some rules is so
pub record AreKept (C : Contents) (L : Lets) (rules : List PlanRule) (kept : KeptMatches) : Type 0 where
  pub steps : AreStepsKept C L rules kept.rules.items
  pub classes : AreKnown C rules kept.classes.items

-- what is kept of an active pattern is kept for its rules
abbrev pub AreKeptFor : Plan → Contents → ℕ → Lets → KeptMatches → Type 0
AreKeptFor plan C p L kept = AreKept C L (rules_of plan p) kept
