-- An attribute is one of its parent's; another node is none.
use Rattle.std.proofs.Common.{◌≡◌, ◌∙◌, true, sym}
use Rattle.std.proofs.lemmas.Bool.{false≢true}
use Rattle.doc_axes.specs.Axes.{is_attribute_kind}
use Rattle.doc_tree.specs.Table.{kind_of}
use Rattle.edit_commands.specs.Touched.{holds_cell}
use Rattle.kept_reads.specs.inner.Naming.{IsOwnNames, IsParentsNames}
use Rattle.kept_reads.proofs.DroppingLemmas.{drops_none, drops_where}
use Rattle.kept_reads.proofs.kept_reads.KeptReads.mark_attribute.Goals as goal

pub returns-then-is_kind : goal.returns-then-is_kind
returns-then-is_kind c =
    let T = c.args.at.now.tree.now.nodes in
    let attribute : is_attribute_kind (kind_of T c.args.node) ≡ true = sym c.is_kind.ensures ∙ c.if-is_kind.true in
    drops_where T (holds_cell c.args.at.now.tree.now.nodes c.args.at.now.touched.now) c.args.at.now.width (IsParentsNames T c.args.node)
    (IsOwnNames T c.args.node)
    c.args.self.now c.mark_own.new.self (λ r own. (attribute, own)) (λ r own. own.1) c.mark_own.ensures

pub returns-else-is_kind : goal.returns-else-is_kind
returns-else-is_kind c =
    let T = c.args.at.now.tree.now.nodes in
    drops_none T (holds_cell c.args.at.now.tree.now.nodes c.args.at.now.touched.now) c.args.at.now.width (IsOwnNames T c.args.node) c.args.self.now
    (λ r own. false≢true (sym c.if-is_kind.false ∙ c.is_kind.ensures ∙ own.0))
