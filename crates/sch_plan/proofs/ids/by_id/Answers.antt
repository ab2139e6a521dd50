use Rattle.std.proofs.Common.{◌≡◌, sym, ap, ◌∙◌}
use Rattle.std.specs.Vec.Iter.{into_iter_items}
use Rattle.std.specs.Option.{option_or}
use Rattle.sch_plan.specs.Rules.{diagnostic_of}
use Rattle.sch_plan.specs.inner.Ids.{found_in}
use Rattle.sch_plan.proofs.IdLemmas.{found-all}
use Rattle.sch_plan.proofs.Loops.{nothing-left, one-fewer}
use Rattle.sch_plan.proofs.ids.by_id.Goals as goal

pub loop-diagnostic-preserved : goal.loop-diagnostic-preserved
loop-diagnostic-preserved c = (
  λ id.
      c.in_ok-keep.ensures _ id
      ∙ ap (λ l. option_or (found_in c.loop-diagnostic.found.entries id) (diagnostic_of l id)) (sym c.in-Some.ensures.steps.0)
      ∙ c.loop-diagnostic.invariant.0 id,
  one-fewer _ _ _ _ _ c.in-Some.ensures.steps.0 c.in-Some.ensures.steps.1 c.loop-diagnostic.invariant.1,
)

pub returns : goal.returns
returns c =
    let e : into_iter_items c.into_iter-diagnostic-iterator.result ≡ c.args.diagnostics = cc in
    rw (← e) (found-all _ _ _ (nothing-left _ (sym c.loop-diagnostic.invariant.1 ∙ c.in-None.ensures.steps.0)) c.loop-diagnostic.invariant.0)
