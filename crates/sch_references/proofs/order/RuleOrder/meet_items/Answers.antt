-- One more, up to all.
use Rattle.sch_references.proofs.ReachLemmas.{adds-all, adds-next}
use Rattle.sch_references.proofs.order.RuleOrder.meet_items.Goals as goal

pub loop-item-preserved : goal.loop-item-preserved
loop-item-preserved c =
    adds-next c.args.self.now c.args.items.now c.loop-item.item-index c.item-item.result c.args.found.now c.loop-item.found c.meet_item.new.found
    c.item-item.is c.loop-item-test.true c.loop-item.invariant c.in_ok-meet_item.ensures

pub returns : goal.returns
returns c =
    adds-all c.args.self.now c.args.items.now c.loop-item.item-index c.args.found.now c.loop-item.found c.loop-item-test.false c.loop-item.auto.item-index-end c.loop-item.invariant
