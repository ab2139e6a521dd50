-- Where no unit has read these names, nothing is to do.
use Rattle.edit_commands.specs.Touched.{holds_cell}
use Rattle.kept_reads.proofs.DroppingLemmas.{drops_free}
use Rattle.kept_reads.proofs.NamingLemmas.{along_free, said_false}
use Rattle.kept_reads.proofs.kept_reads.KeptReads.mark_far_along.Goals as goal

pub returns-else-may : goal.returns-else-may
returns-else-may c =
    let T = c.args.at.now.tree.now.nodes in
    drops_free T (holds_cell c.args.at.now.tree.now.nodes c.args.at.now.touched.now) c.args.at.now.width _ c.args.self.now
    (along_free T c.args.node c.args.axis c.args.n c.args.self.now (said_false c.may_have-may.result c.if-may.false c.may_have-may.ensures))
