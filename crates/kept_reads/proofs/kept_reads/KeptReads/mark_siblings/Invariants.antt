-- The kids so far are gone through.
use Rattle.std.proofs.Common.{take}
use Rattle.edit_commands.specs.Touched.{holds_cell}
use Rattle.kept_reads.specs.inner.Dropping.{DropsTouched}
use Rattle.kept_reads.specs.inner.Naming.{IsAlongAny, is_sibling_axis}
use Rattle.kept_reads.proofs.kept_reads.KeptReads.mark_siblings.Given as goal

abbrev pub invariant-loop-kid : goal.invariant-loop-kid
invariant-loop-kid l =
    DropsTouched l.at.tree.now.nodes (holds_cell l.at.tree.now.nodes l.at.touched.now) l.at.width
    (IsAlongAny l.at.tree.now.nodes l.node is_sibling_axis (take l.kid-index l.kid-items)) l.fn.self l.self
