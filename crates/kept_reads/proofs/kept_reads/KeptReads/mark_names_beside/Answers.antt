-- A node has one parent at most.
use Rattle.std.proofs.Common.{◌≡◌, ◌∙◌, ◌⊎◌, sym}
use Rattle.doc_tree.specs.Table.{kids_of}
use Rattle.doc_tree.specs.declared.axes.Axis.TheVariants.{Child}
use Rattle.edit_commands.specs.Touched.{holds_cell}
use Rattle.xp_outcome.specs.Evaluation.{names_along}
use Rattle.kept_reads.specs.inner.Naming.{IsAlongAny, IsBesideNames, is_sibling_axis}
use Rattle.kept_reads.proofs.DroppingLemmas.{drops_none, drops_then, drops_where}
use Rattle.kept_reads.proofs.NamingLemmas.{beside_back, beside_here, beside_none}
use Rattle.kept_reads.proofs.kept_reads.KeptReads.mark_names_beside.Goals as goal

pub returns-in-Some : goal.returns-in-Some
returns-in-Some c =
    let T = c.args.at.now.tree.now.nodes in
    let touched = holds_cell c.args.at.now.tree.now.nodes c.args.at.now.touched.now in
    let width = c.args.at.now.width in
    let p = c.in-Some.parent in
    drops_where T touched width (λ r. (r ≡ names_along Child p)
    ⊎ IsAlongAny T c.args.node is_sibling_axis (kids_of T p) r) (IsBesideNames T c.args.node)
    c.args.self.now c.mark_siblings.new.self (beside_here T c.args.node p (sym c.in-Some.ensures))
    (beside_back T c.args.node p (sym c.in-Some.ensures))
    (drops_then T touched width (λ r. r ≡ names_along Child p) (IsAlongAny T c.args.node is_sibling_axis (kids_of T p)) c.args.self.now
    c.mark_names.new.self
    c.mark_siblings.new.self c.mark_names.ensures c.mark_siblings.ensures)

pub returns-in_default : goal.returns-in_default
returns-in_default c =
    let T = c.args.at.now.tree.now.nodes in
    drops_none T (holds_cell c.args.at.now.tree.now.nodes c.args.at.now.touched.now) c.args.at.now.width (IsBesideNames T c.args.node) c.args.self.now
    (beside_none T c.args.node (sym c.parent.ensures ∙ c.in_default.is))
