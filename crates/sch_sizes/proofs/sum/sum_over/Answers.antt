-- One item more, up to all.
use Rattle.std.proofs.Common.{◌∙◌, ap, sym}
use Rattle.std.proofs.lemmas.List.{take_all}
use Rattle.sch_sizes.specs.inner.Amounts.{cap, plus, sum_all}
use Rattle.sch_sizes.proofs.AmountLemmas.{cap-nothing, sum_next}
use Rattle.sch_sizes.proofs.sum.sum_over.Goals as goal

pub loop-item-init : goal.loop-item-init
loop-item-init g c = c.none-sum.ensures ∙ sym cap-nothing

pub loop-item-preserved : goal.loop-item-preserved
loop-item-preserved g c =
    c.plus-sum.ensures
    ∙ ap (λ a. cap (plus c.loop-item.sum a)) c.amount_of.ensures
    ∙ sum_next (g.W.Weighing.amount c.args.way.now) c.args.items.now c.loop-item.item-index c.item-item.result c.loop-item.sum c.item-item.is c.loop-item-test.true c.loop-item.invariant

pub returns : goal.returns
returns g c =
    c.loop-item.invariant ∙ ap (λ l. cap (sum_all (g.W.Weighing.amount c.args.way.now) l)) (take_all c.loop-item.item-index c.args.items.now c.loop-item-test.false)
