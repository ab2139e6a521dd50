-- First the value, then the texts above.
use Rattle.edit_commands.specs.Touched.{holds_cell}
use Rattle.kept_reads.proofs.DroppingLemmas.{drops_then}
use Rattle.kept_reads.proofs.kept_reads.KeptReads.mark_said.Goals as goal

pub returns : goal.returns
returns c =
    drops_then c.args.at.now.tree.now.nodes (holds_cell c.args.at.now.tree.now.nodes c.args.at.now.touched.now) c.args.at.now.width _ _
    c.args.self.now c.mark_readers.new.self
    c.mark_texts_above.new.self
    c.mark_readers.ensures c.mark_texts_above.ensures
