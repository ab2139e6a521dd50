-- No far axis leads from a node that doesn't live.
use Rattle.std.proofs.Common.{◌∙◌, sym}
use Rattle.edit_commands.specs.Touched.{holds_cell}
use Rattle.kept_reads.proofs.DroppingLemmas.{drops_none}
use Rattle.kept_reads.proofs.NamingLemmas.{dead_far}
use Rattle.kept_reads.proofs.kept_reads.KeptReads.mark_far.Goals as goal

pub returns-else-contains : goal.returns-else-contains
returns-else-contains c =
    let T = c.args.at.now.tree.now.nodes in
    let laws = c.laws.ensures in
    drops_none T (holds_cell c.args.at.now.tree.now.nodes c.args.at.now.touched.now) c.args.at.now.width _ c.args.self.now
    (dead_far T laws.well_formed laws.ordered laws.ways_up laws.nested c.args.node c.requires.element c.args.n (sym c.contains.ensures ∙ c.if-contains.false))
