use Rattle.std.proofs.Common.{ap}
use Rattle.std.proofs.lemmas.Result.{err_from_is_err_and}
use Rattle.sch_plan.proofs.Walking.{answers_goes, answers_stop, answers_then}
use Rattle.sch_plan.proofs.GrownLemmas.{kept-seen}
use Rattle.sch_plan.proofs.walker.Walker.rule_parts.Goals as goal

pub returns-in_err-context-clause-compiled : goal.returns-in_err-context-clause-compiled
returns-in_err-context-clause-compiled c =
    let p = err_from_is_err_and c.from_residual.result c.from_residual.ensures.1 in
    λ id role flag. rw (p.1, p.2) (answers_stop _ _ _ c.in_err-context.ensures)

pub returns-in_err-lets-clause-compiled : goal.returns-in_err-lets-clause-compiled
returns-in_err-lets-clause-compiled c =
    let p = err_from_is_err_and c.from_residual-in_err-lets.result c.from_residual-in_err-lets.ensures.1 in
    λ id role flag. rw (p.1, p.2) (answers_then _ _ _ _ c.in_ok-context.ensures (answers_stop _ _ _ (rw c.go_on_at.ensures at c.in_err-lets.ensures)))

pub returns-in_err-subject-clause-compiled : goal.returns-in_err-subject-clause-compiled
returns-in_err-subject-clause-compiled c =
    let p = err_from_is_err_and c.from_residual-in_err-subject.result c.from_residual-in_err-subject.ensures.1 in
    λ id role flag. rw (p.1, p.2) (answers_then _ _ _ _ c.in_ok-context.ensures (answers_then _ _ _ _ (rw c.go_on_at.ensures at c.in_ok-lets.ensures) (answers_stop _ _ _ c.in_err-subject.ensures)))

pub returns-in_err-assertions-clause-compiled : goal.returns-in_err-assertions-clause-compiled
returns-in_err-assertions-clause-compiled c =
    let p = err_from_is_err_and c.from_residual-in_err-assertions.result c.from_residual-in_err-assertions.ensures.1 in
    λ id role flag. rw (p.1, p.2) (answers_then _ _ _ _ c.in_ok-context.ensures (answers_then _ _ _ _ (rw c.go_on_at.ensures at c.in_ok-lets.ensures) (answers_then _ _ _ _ c.in_ok-subject.ensures (answers_stop _ _ _ c.in_err-assertions.ensures))))

pub returns-clause-compiled : goal.returns-clause-compiled
returns-clause-compiled c =
    λ id role flag. answers_then _ _ _ _ c.in_ok-context.ensures (answers_then _ _ _ _ (rw c.go_on_at.ensures at c.in_ok-lets.ensures) (answers_then _ _ _ _ c.in_ok-subject.ensures (answers_then _ _ _ _ c.in_ok-assertions.ensures (answers_goes _))))

pub returns-clause-kept : goal.returns-clause-kept
returns-clause-kept c =
    ap (λ s. record c.args.self.now { seen = s })
    (kept-seen _ _ _ _ _ _ _ _ _ (rw c.go_on_at.ensures at c.in_ok-lets.ensures).given c.mark-mark.ensures c.cut.ensures c.next-next.ensures c.go_on_at-2.ensures)
