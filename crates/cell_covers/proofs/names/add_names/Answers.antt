-- One more is noted.
use Rattle.std.proofs.Common.{◌+◌, ◌∙◌, ap, sym, drop}
use Rattle.xp_outcome.proofs.Runs.{next_item, no_item}
use Rattle.cell_covers.specs.inner.Naming.{with_names}
use Rattle.cell_covers.proofs.names.add_names.Goals as goal

pub loop-along-preserved : goal.loop-along-preserved
loop-along-preserved c =
    ap (λ held. with_names c.args.tree.now.nodes held (drop (c.loop-along.along-index + 1) c.args.names.now)) c.in_ok-add_along.ensures
    ∙ sym (ap (with_names c.args.tree.now.nodes c.loop-along.held)
    (next_item c.args.names.now c.loop-along.along-index c.along-item.result c.loop-along-test.true c.along-item.is))
    ∙ c.loop-along.invariant

pub returns : goal.returns
returns c =
    sym (ap (with_names c.args.tree.now.nodes c.loop-along.held) (no_item c.args.names.now c.loop-along.along-index c.loop-along-test.false))
    ∙ c.loop-along.invariant
