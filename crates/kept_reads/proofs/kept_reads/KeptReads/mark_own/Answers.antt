-- A node has one parent at most.
use Rattle.std.proofs.Common.{◌≡◌, ◌∙◌, sym}
use Rattle.doc_tree.specs.declared.axes.Axis.TheVariants.{Attribute}
use Rattle.edit_commands.specs.Touched.{holds_cell}
use Rattle.xp_outcome.specs.Evaluation.{names_along}
use Rattle.kept_reads.specs.inner.Naming.{IsParentsNames}
use Rattle.kept_reads.proofs.DroppingLemmas.{drops_none, drops_where}
use Rattle.kept_reads.proofs.NamingLemmas.{parents_back, parents_here, parents_none}
use Rattle.kept_reads.proofs.kept_reads.KeptReads.mark_own.Goals as goal

pub returns-in-Some : goal.returns-in-Some
returns-in-Some c =
    let T = c.args.at.now.tree.now.nodes in
    drops_where T (holds_cell c.args.at.now.tree.now.nodes c.args.at.now.touched.now) c.args.at.now.width
    (λ r. r ≡ names_along Attribute c.in-Some.parent)
    (IsParentsNames T c.args.node) c.args.self.now c.mark_names.new.self (parents_here T c.args.node c.in-Some.parent (sym c.in-Some.ensures))
    (parents_back T c.args.node c.in-Some.parent (sym c.in-Some.ensures)) c.mark_names.ensures

pub returns-in_default : goal.returns-in_default
returns-in_default c =
    let T = c.args.at.now.tree.now.nodes in
    drops_none T (holds_cell c.args.at.now.tree.now.nodes c.args.at.now.touched.now) c.args.at.now.width (IsParentsNames T c.args.node)
    c.args.self.now
    (parents_none T c.args.node (sym c.parent.ensures ∙ c.in_default.is))
