-- The kids, what is around the node, what is above it, and the left text.
use Rattle.edit_commands.specs.Touched.{holds_cell}
use Rattle.kept_reads.proofs.DroppingLemmas.{drops_then}
use Rattle.kept_reads.proofs.kept_reads.KeptReads.mark_below.Goals as goal

pub returns : goal.returns
returns c =
    let touched = holds_cell c.args.at.now.tree.now.nodes c.args.at.now.touched.now in
    let width = c.args.at.now.width in
    drops_then c.args.at.now.tree.now.nodes touched width _ _ c.args.self.now c.mark_above.new.self c.mark_left.new.self
    (drops_then c.args.at.now.tree.now.nodes touched width _ _ c.args.self.now c.mark_around.new.self c.mark_above.new.self
    (drops_then c.args.at.now.tree.now.nodes touched width _ _ c.args.self.now c.mark_readers.new.self c.mark_around.new.self c.mark_readers.ensures
    c.mark_around.ensures)
    c.mark_above.ensures)
    c.mark_left.ensures
