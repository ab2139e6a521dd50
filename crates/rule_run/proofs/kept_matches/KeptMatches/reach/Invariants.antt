use Rattle.std.proofs.Common.{◌+◌, ◌-◌, List, length}
use Rattle.doc_tree.specs.Table.{Contents}
use Rattle.xp_meaning.specs.Evaluation.{Lets}
use Rattle.sch_compiled.specs.declared.parts.PlanRule.{PlanRule}
use Rattle.rule_run.specs.KeptMatches.{AreKept}
use Rattle.rule_run.proofs.kept_matches.KeptMatches.reach.Given as goal

abbrev pub invariant-loop-alloc : goal.invariant-loop-alloc
invariant-loop-alloc l = (C : Contents) (L : Lets) (rules : List PlanRule) → AreKept C L rules l.fn.self → AreKept C L rules l.self

abbrev pub decreases-loop-alloc : goal.decreases-loop-alloc
decreases-loop-alloc l = (l.r + 1) - length l.self.rules.items
