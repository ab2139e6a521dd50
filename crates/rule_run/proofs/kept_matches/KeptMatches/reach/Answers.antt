use Rattle.std.proofs.Common.{subst, sym}
use Rattle.rule_run.specs.KeptMatches.{AreStepsKept}
use Rattle.rule_run.proofs.MatchesKept.{kept_pushed}
use Rattle.rule_run.proofs.kept_matches.KeptMatches.reach.Goals as goal

pub loop-alloc-preserved : goal.loop-alloc-preserved
loop-alloc-preserved c = λ C L rules kept.
    let before = c.loop-alloc.invariant C L rules kept in
    record {
      steps = kept_pushed C L rules c.loop-alloc.self.rules.items c.push.new.self.items c.new.result c.in_ok-push.ensures.items c.new.ensures before.steps;
      classes = before.classes;
    }

pub returns-in_err-push-clause-kept : goal.returns-in_err-push-clause-kept
returns-in_err-push-clause-kept c = λ C L rules kept.
    let before = c.loop-alloc.invariant C L rules kept in
    record { steps = subst (AreStepsKept C L rules) (sym c.in_err-push.ensures.items) before.steps; classes = before.classes }
