-- One node more is taken.
use Rattle.std.proofs.Common.{◌∙◌, arith}
use Rattle.doc_edits.proofs.ClearingLemmas.{one-more}
use Rattle.doc_edits.proofs.removing.take_all.Goals as goal

pub loop-n-preserved : goal.loop-n-preserved
loop-n-preserved c = (
  c.take-node.ensures.counted,
  one-more c.args.ns.now c.loop-n.n-index c.n-item.result c.args.bare.now.nodes c.loop-n.bare.nodes c.take-node.new.bare.nodes c.loop-n-test.true c.n-item.is c.loop-n.invariant.1
      c.take-node.ensures.taken,
  omega (arith, c.take-node.ensures.fewer, c.loop-n.invariant.2),
  c.take-node.ensures.names ∙ c.loop-n.invariant.3,
  c.take-node.ensures.cap ∙ c.loop-n.invariant.4,
)
