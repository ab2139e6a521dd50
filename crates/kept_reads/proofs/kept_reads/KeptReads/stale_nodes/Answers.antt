-- One node more is counted.
use Rattle.std.proofs.Common.{◌∙◌, ap, sym, arith}
use Rattle.kept_reads.specs.Counting.{is_stale_node}
use Rattle.kept_reads.proofs.CountingLemmas.{count_none, count_one}
use Rattle.kept_reads.proofs.kept_reads.KeptReads.stale_nodes.Goals as goal
use Rattle.kept_reads.proofs.kept_reads.KeptReads.stale_nodes.Goals.{then-is_stale_node, else-is_stale_node}

pub loop-number-preserved : goal.loop-number-preserved
loop-number-preserved c =
    let is_stale = is_stale_node c.args.tree.now.nodes c.args.self.now.entries c.args.patterns c.args.p in
    let told = ap is_stale (sym c.from_number.ensures) ∙ sym c.is_stale_node.ensures in
    elim c.if-is_stale_node.branch [
      | then-is_stale_node w ↦ record {
        counted = count_one is_stale c.loop-number.number c.loop-number.count _ (told ∙ w.if-is_stale_node.true) c.loop-number.invariant.counted
            w.count-is;
        at_most = omega arith;
      }
      | else-is_stale_node w ↦ record {
        counted = count_none is_stale c.loop-number.number c.loop-number.count _ (told ∙ w.if-is_stale_node.false) c.loop-number.invariant.counted
            w.count-is;
        at_most = omega arith;
      }
    ]
