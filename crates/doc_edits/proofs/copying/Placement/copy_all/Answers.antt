-- A copy more stands behind those before it, and names only grow.
use Rattle.std.proofs.Common.{take, sym, subst, ◌+◌}
use Rattle.doc_edits.specs.inner.Copies.{AreCopies}
use Rattle.doc_edits.proofs.CopyLemmas.{grows-then, copies-more}
use Rattle.doc_edits.proofs.copying.Placement.copy_all.Goals as goal

pub loop-n-preserved : goal.loop-n-preserved
loop-n-preserved c = record {
  copied = subst (AreCopies c.copy_at.new.names c.args.piece.now.names c.args.self.now c.args.piece.now.nodes (take (c.loop-n.n-index + 1) c.args.nodes.now)) (sym c.in_ok-push.ensures.items)
      (copies-more c.loop-n.names c.copy_at.new.names c.args.piece.now.names c.args.self.now c.args.piece.now.nodes c.args.nodes.now c.loop-n.n-index c.n-item.result c.loop-n.copies.items c.in_ok-copy.copy
      c.loop-n-test.true c.n-item.is c.copy_at.ensures.grown c.loop-n.invariant.copied c.in_ok-copy.ensures.copied);
  grown = grows-then c.args.names.now c.loop-n.names c.copy_at.new.names c.loop-n.invariant.grown c.copy_at.ensures.grown;
}
