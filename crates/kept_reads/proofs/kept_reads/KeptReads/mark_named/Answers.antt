-- Of an element, and of another node.
use Rattle.std.proofs.Common.{◌≡◌, ◌∙◌, ◌⊎◌, true, sym}
use Rattle.doc_tree.specs.cell.Cell.TheVariants.{Name}
use Rattle.doc_edit_laws.specs.Touching.{touched_name}
use Rattle.edit_commands.specs.Touched.{holds_cell}
use Rattle.xp_outcome.specs.Evaluation.{cell}
use Rattle.kept_reads.specs.inner.Dropping.{is_touched}
use Rattle.kept_reads.specs.inner.Naming.{IsNamedFrom, IsOwnNames}
use Rattle.kept_reads.proofs.DroppingLemmas.{drops_then, drops_where}
use Rattle.kept_reads.proofs.NamingLemmas.{element_covered, element_touched, other_covered, other_touched}
use Rattle.kept_reads.proofs.kept_reads.KeptReads.mark_named.Goals as goal

pub returns-then-is_element : goal.returns-then-is_element
returns-then-is_element c =
    let T = c.args.at.now.tree.now.nodes in
    let touched = holds_cell c.args.at.now.tree.now.nodes c.args.at.now.touched.now in
    let laws = c.laws.ensures in
    let element = sym c.is_element.ensures ∙ c.if-is_element.true in
    drops_where T touched c.args.at.now.width (λ r. (r ≡ cell (Name c.args.node)) ⊎ IsNamedFrom T c.args.node r)
    (λ r. is_touched T (touched_name c.args.node) r ≡ true)
    c.args.self.now c.mark_element.new.self
    (element_touched T laws.well_formed laws.ordered laws.ways_up laws.nested c.args.node element)
    (element_covered T laws.well_formed laws.ordered laws.ways_up laws.nested c.args.node element)
    (drops_then T touched c.args.at.now.width (λ r. r ≡ cell (Name c.args.node)) (IsNamedFrom T c.args.node) c.args.self.now c.mark_readers.new.self
    c.mark_element.new.self c.mark_readers.ensures c.mark_element.ensures)

pub returns-else-is_element : goal.returns-else-is_element
returns-else-is_element c =
    let T = c.args.at.now.tree.now.nodes in
    let touched = holds_cell c.args.at.now.tree.now.nodes c.args.at.now.touched.now in
    let laws = c.laws.ensures in
    drops_where T touched c.args.at.now.width (λ r. (r ≡ cell (Name c.args.node)) ⊎ IsOwnNames T c.args.node r)
    (λ r. is_touched T (touched_name c.args.node) r ≡ true)
    c.args.self.now c.mark_attribute.new.self
    (other_touched T laws.well_formed laws.ordered laws.ways_up laws.nested c.args.node)
    (other_covered T laws.well_formed laws.ordered laws.ways_up laws.nested c.args.node (sym c.is_element.ensures ∙ c.if-is_element.false))
    (drops_then T touched c.args.at.now.width (λ r. r ≡ cell (Name c.args.node)) (IsOwnNames T c.args.node) c.args.self.now c.mark_readers.new.self
    c.mark_attribute.new.self c.mark_readers.ensures c.mark_attribute.ensures)
