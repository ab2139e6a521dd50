use Rattle.sch_plan.proofs.Walking.{answers_goes, answers_then}
use Rattle.sch_plan.proofs.GrownLemmas.{cut-seen}
use Rattle.sch_plan.proofs.walker.Walker.one_pattern.Goals as goal

pub returns-clause-compiled : goal.returns-clause-compiled
returns-clause-compiled c =
    let kept = c.in_ok-rules.ensures.kept in
    rw (cut-seen _ _ _ _ _ _ c.in_ok-lets.ensures.given c.mark-mark.ensures (rw kept at c.cut.ensures)) (answers_then _ _ _ _ c.in_ok-lets.ensures (answers_then _ _ _ _ c.in_ok-rules.ensures.compiled (answers_goes _)))
