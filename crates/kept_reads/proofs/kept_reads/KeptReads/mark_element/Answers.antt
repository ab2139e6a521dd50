-- What is below it, what is above it, what is beside it, and what is far.
use Rattle.edit_commands.specs.Touched.{holds_cell}
use Rattle.kept_reads.proofs.DroppingLemmas.{drops_then}
use Rattle.kept_reads.proofs.kept_reads.KeptReads.mark_element.Goals as goal

pub returns : goal.returns
returns c =
    let T = c.args.at.now.tree.now.nodes in
    let touched = holds_cell c.args.at.now.tree.now.nodes c.args.at.now.touched.now in
    let width = c.args.at.now.width in
    drops_then T touched width _ _ c.args.self.now c.mark_names_beside.new.self c.mark_names_far.new.self
    (drops_then T touched width _ _ c.args.self.now c.mark_names_above.new.self c.mark_names_beside.new.self
    (drops_then T touched width _ _ c.args.self.now c.mark_names.new.self c.mark_names_above.new.self c.mark_names.ensures c.mark_names_above.ensures)
    c.mark_names_beside.ensures)
    c.mark_names_far.ensures
