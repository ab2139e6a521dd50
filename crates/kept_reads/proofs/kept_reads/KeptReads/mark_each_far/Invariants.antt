-- The nodes so far are gone through.
use Rattle.edit_commands.specs.Touched.{holds_cell}
use Rattle.kept_reads.specs.inner.Dropping.{DropsTouched}
use Rattle.kept_reads.specs.inner.Naming.{IsAlongBelow}
use Rattle.read_index.specs.Names.{is_far}
use Rattle.kept_reads.proofs.kept_reads.KeptReads.mark_each_far.Given as goal

abbrev pub invariant-loop-number : goal.invariant-loop-number
invariant-loop-number l =
    DropsTouched l.at.tree.now.nodes (holds_cell l.at.tree.now.nodes l.at.touched.now) l.at.width
    (IsAlongBelow l.at.tree.now.nodes l.node is_far l.number) l.fn.self l.self
