use Rattle.std.proofs.Common.{◌-◌, List, length}
use Rattle.doc_tree.specs.Table.{Contents}
use Rattle.xp_meaning.specs.Evaluation.{Lets}
use Rattle.sch_compiled.specs.declared.parts.PlanRule.{PlanRule}
use Rattle.rule_run.specs.KeptMatches.{AreKept}
use Rattle.rule_run.proofs.kept_matches.KeptMatches.reach_classes.Given as goal

abbrev pub invariant-loop-self : goal.invariant-loop-self
invariant-loop-self l = (C : Contents) (L : Lets) (rules : List PlanRule) → AreKept C L rules l.fn.self → AreKept C L rules l.self

abbrev pub decreases-loop-self : goal.decreases-loop-self
decreases-loop-self l = 262 - length l.self.classes.items
