use Rattle.std.proofs.Common.{sym, ◌∙◌, refl}
use Rattle.sch_plan.proofs.Walking.{answers_refused, answers_stop, answers_then, answers_unless}
use Rattle.sch_plan.proofs.scopes.Scopes.one_let.Goals as goal

pub returns-then-has : goal.returns-then-has
returns-then-has c = answers_refused _ _ _ _ (rw c.as_str.ensures at (sym c.has.ensures ∙ c.if-has.true)) refl

pub see-requires : goal.see-requires
see-requires c = rw c.as_str.ensures at (sym c.has.ensures ∙ c.if-has.false)

pub returns-in-Ok : goal.returns-in-Ok
returns-in-Ok c =
    answers_unless _ _ _ _ (rw c.as_str.ensures at (sym c.has.ensures ∙ c.if-has.false)) (answers_then _ _ _ _ (rw c.as_str-2.ensures at c.in-Ok.ensures) c.see.ensures)

pub returns-in-Err : goal.returns-in-Err
returns-in-Err c =
    answers_unless _ _ _ _ (rw c.as_str.ensures at (sym c.has.ensures ∙ c.if-has.false)) (answers_stop _ _ _ (rw c.as_str-2.ensures at c.in-Err.ensures))
