-- One more.
use Rattle.std.proofs.Common.{drop, sym, ap, ◌∙◌, ◌+◌}
use Rattle.sch_plan.specs.Lets.{with_prefixes}
use Rattle.sch_plan.proofs.Loops.{drop-at}
use Rattle.sch_plan.proofs.scopes.bound.Goals as goal

pub loop-ns-preserved : goal.loop-ns-preserved
loop-ns-preserved c = (
  ap (λ s. s.in_pattern) c.in_ok-bind.ensures ∙ c.loop-ns.invariant.0,
  ap (λ s. s.variables) c.in_ok-bind.ensures ∙ c.loop-ns.invariant.1,
  ap (λ s. with_prefixes s.prefixes (drop (c.loop-ns.ns-index + 1) c.args.prefixes.now)) c.in_ok-bind.ensures
      ∙ ap (with_prefixes c.loop-ns.env.prefixes) (sym (drop-at c.args.prefixes.now c.loop-ns.ns-index c.ns-item.result c.loop-ns-test.true c.ns-item.is))
      ∙ c.loop-ns.invariant.2,
)
