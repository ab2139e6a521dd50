-- One more is noted.
use Rattle.std.proofs.Common.{◌+◌, ◌∙◌, ap, sym, drop}
use Rattle.xp_outcome.proofs.Runs.{next_item, no_item}
use Rattle.cell_covers.specs.inner.Naming.{with_each_name}
use Rattle.cell_covers.proofs.names.add_each_name.Goals as goal

pub loop-node-preserved : goal.loop-node-preserved
loop-node-preserved c =
    ap (λ held. with_each_name c.args.tree.now.nodes held (drop (c.loop-node.node-index + 1) c.args.nodes.now)) c.in_ok-add_name.ensures
    ∙ sym (ap (with_each_name c.args.tree.now.nodes c.loop-node.held)
    (next_item c.args.nodes.now c.loop-node.node-index c.node-item.result c.loop-node-test.true c.node-item.is))
    ∙ c.loop-node.invariant

pub returns : goal.returns
returns c =
    sym (ap (with_each_name c.args.tree.now.nodes c.loop-node.held) (no_item c.args.nodes.now c.loop-node.node-index c.loop-node-test.false))
    ∙ c.loop-node.invariant
