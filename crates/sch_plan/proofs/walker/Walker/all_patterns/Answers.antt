use Rattle.std.proofs.Common.{◌≡◌, sym, ap, subst, ◌∙◌, Ok, Err}
use Rattle.std.proofs.lemmas.Result.{err_from_is_err_and}
use Rattle.std.specs.Vec.Iter.{into_iter_items}
use Rattle.sch_plan.proofs.Loops.{each_end, each_go, each_refused, one-fewer}
use Rattle.sch_plan.specs.declared.walker.Walker.{Walker}
use Rattle.sch_plan.specs.Rules.{one_pattern}
use Rattle.sch_phases.specs.Walk.{Answers}
use Rattle.sch_plan.specs.inner.Ids.{kept_in}
use Rattle.sch_plan.proofs.walker.Walker.all_patterns.Goals as goal

pub returns-in_err-one_pattern : goal.returns-in_err-one_pattern
returns-in_err-one_pattern c =
    let e : into_iter_items c.into_iter-pattern-iterator.result ≡ c.args.patterns = cc in
    let p = err_from_is_err_and c.from_residual.result c.from_residual.ensures.1 in
    rw (p.1, p.2, ← e) (each_refused _ _ _ _ _ _ _ _ _ c.loop-pattern.invariant.0 c.in-Some.ensures.steps.0 (subst (λ w. Answers (one_pattern (kept_in w.notes) w.count c.loop-pattern.self.seen c.in-Some.pattern) (Err c.in_err-one_pattern.field-0.0)) c.loop-pattern.invariant.1 c.in_err-one_pattern.ensures.compiled))

pub loop-pattern-preserved : goal.loop-pattern-preserved
loop-pattern-preserved c = (
  each_go _ _ _ _ _ _ _ _ _ _ _ c.loop-pattern.invariant.0 c.in-Some.ensures.steps.0 (subst (λ w. Answers (one_pattern (kept_in w.notes) w.count c.loop-pattern.self.seen c.in-Some.pattern) (Ok (c.one_pattern.new.self.seen, c.in_ok-one_pattern.field-0))) c.loop-pattern.invariant.1 c.in_ok-one_pattern.ensures.compiled) c.in_ok-push.ensures.pushed,
  c.in_ok-one_pattern.ensures.kept ∙ ap (λ (w : Walker). record w { seen = c.one_pattern.new.self.seen }) c.loop-pattern.invariant.1,
  one-fewer _ _ _ _ _ c.in-Some.ensures.steps.0 c.in-Some.ensures.steps.1 c.loop-pattern.invariant.2,
)

pub returns : goal.returns
returns c =
    let e : into_iter_items c.into_iter-pattern-iterator.result ≡ c.args.patterns = cc in
    rw (← e) (each_end _ _ _ _ _ _ c.loop-pattern.invariant.0 (sym c.loop-pattern.invariant.2 ∙ c.in-None.ensures.steps.0))
