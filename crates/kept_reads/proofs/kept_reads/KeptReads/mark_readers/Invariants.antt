-- Nothing but touched reads is dropped.
use Rattle.std.proofs.Common.{◌≡◌, true}
use Rattle.edit_commands.specs.Touched.{holds_cell}
use Rattle.xp_outcome.specs.Evaluation.{cell}
use Rattle.kept_reads.specs.Marking.{Thins}
use Rattle.kept_reads.specs.Reads.{kept_count}
use Rattle.kept_reads.specs.inner.Dropping.{is_touched}
use Rattle.kept_reads.proofs.kept_reads.KeptReads.mark_readers.Given as goal

abbrev pub invariant-loop-place : goal.invariant-loop-place
invariant-loop-place l =
    is_touched l.at.tree.now.nodes (holds_cell l.at.tree.now.nodes l.at.touched.now) (cell l.cell) ≡ true →
    Thins l.at.tree.now.nodes (holds_cell l.at.tree.now.nodes l.at.touched.now) l.at.width l.fn.self l.self

abbrev pub decreases-loop-place : goal.decreases-loop-place
decreases-loop-place l = kept_count l.self.entries
