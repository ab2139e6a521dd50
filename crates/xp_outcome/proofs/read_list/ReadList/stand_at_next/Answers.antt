use Rattle.std.proofs.Common.{◌++◌, ◌∙◌, append-nil, subst, sym}
use Rattle.xp_outcome.specs.inner.Settling.{SameItems}
use Rattle.xp_outcome.proofs.Runs.{next_item, no_item}
use Rattle.xp_outcome.proofs.Sets.{same_list, same_through, stand_already}
use Rattle.xp_outcome.proofs.read_list.ReadList.stand_at_next.Goals as goal

pub loop-item-preserved : goal.loop-item-preserved
loop-item-preserved g c = λ rest.
    let items = c.args.self.now.items.items in
    c.loop-item.invariant
    (subst (λ more. SameItems g.T.PartialEq.eq (items ++ more) items) (sym (next_item c.args.more.now c.loop-item.item-index c.item-item.result c.loop-item-test.true c.item-item.is))
    (same_through (stand_already items c.loop-item.place _ _ (sym c.is_at.ensures ∙ c.if-not-is_at.false)) rest))

pub returns : goal.returns
returns g c = λ _.
    let items = c.args.self.now.items.items in
    c.loop-item.invariant
    (subst (λ more. SameItems g.T.PartialEq.eq (items ++ more) items) (sym (no_item c.args.more.now c.loop-item.item-index c.loop-item-test.false))
    (same_list (append-nil items)))
