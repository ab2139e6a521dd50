use Rattle.std.proofs.Common.{sym, ap, ◌∙◌}
use Rattle.sch_expansion.specs.inner.Walks.{are_none, told_rules}
use Rattle.sch_expansion.proofs.WalkLemmas.{item-known, nothing-left, nothing-next, something-next}
use Rattle.sch_expansion.proofs.nothing.are_nothing.Goals as goal

pub is_nothing-requires-clause-known : goal.is_nothing-requires-clause-known
is_nothing-requires-clause-known c =
    item-known (told_rules c.args.rules.now c.args.table.now) c.args.items.now c.loop-item.item-index c.item-item.result c.loop-item-test.true c.item-item.is c.requires.known

pub returns-then-not-is_nothing : goal.returns-then-not-is_nothing
returns-then-not-is_nothing c =
    sym (
    ap are_none c.loop-item.invariant
    ∙ something-next c.args.rules.now c.args.items.now c.loop-item.item-index c.item-item.result c.loop-item-test.true c.item-item.is
    (sym c.is_nothing.ensures ∙ c.if-not-is_nothing.true)
    )

pub loop-item-preserved : goal.loop-item-preserved
loop-item-preserved c =
    c.loop-item.invariant
    ∙ nothing-next c.args.rules.now c.args.items.now c.loop-item.item-index c.item-item.result c.loop-item-test.true c.item-item.is
    (sym c.is_nothing.ensures ∙ c.if-not-is_nothing.false)

pub returns : goal.returns
returns c = sym (ap are_none (c.loop-item.invariant ∙ nothing-left c.args.rules.now c.args.items.now c.loop-item.item-index c.loop-item-test.false))
