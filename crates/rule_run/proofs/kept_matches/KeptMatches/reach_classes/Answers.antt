use Rattle.std.proofs.Common.{subst, sym}
use Rattle.rule_run.specs.Classes.{AreKnown}
use Rattle.rule_run.proofs.ClassesKept.{known_pushed}
use Rattle.rule_run.proofs.kept_matches.KeptMatches.reach_classes.Goals as goal

pub loop-self-preserved : goal.loop-self-preserved
loop-self-preserved c = λ C L rules kept.
    let before = c.loop-self.invariant C L rules kept in
    record { steps = before.steps; classes = known_pushed C rules c.loop-self.self.classes.items c.push.new.self.items c.in_ok-push.ensures.items before.classes }

pub returns-in_err-push-clause-kept : goal.returns-in_err-push-clause-kept
returns-in_err-push-clause-kept c = λ C L rules kept.
    let before = c.loop-self.invariant C L rules kept in
    record { steps = before.steps; classes = subst (AreKnown C rules) (sym c.in_err-push.ensures.items) before.classes }
