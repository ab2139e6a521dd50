-- Where no unit has read names along a far axis, nothing is to do.
use Rattle.edit_commands.specs.Touched.{holds_cell}
use Rattle.kept_reads.proofs.DroppingLemmas.{drops_free}
use Rattle.kept_reads.proofs.NamingLemmas.{far_free, said_false}
use Rattle.kept_reads.proofs.kept_reads.KeptReads.mark_names_far.Goals as goal

pub returns-else-may : goal.returns-else-may
returns-else-may c =
    let T = c.args.at.now.tree.now.nodes in
    drops_free T (holds_cell c.args.at.now.tree.now.nodes c.args.at.now.touched.now) c.args.at.now.width _ c.args.self.now
    (far_free T c.args.node c.args.self.now (said_false c.may_have_far-may.result c.if-may.false c.may_have_far-may.ensures))
