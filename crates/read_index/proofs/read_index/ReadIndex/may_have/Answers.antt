-- A unit has read names along an axis where it has their cell.
use Rattle.std.proofs.Common.{◌≡◌, ◌∙◌, ℕ, true, false, subst, sym}
use Rattle.std.specs.Bool.{OnFalse}
use Rattle.doc_tree.specs.cell.Cell.{Cell}
use Rattle.cell_index.specs.Index.{has}
use Rattle.read_index.proofs.ReadLemmas.{may_read}
use Rattle.read_index.proofs.read_index.ReadIndex.may_have.Goals as goal

pub returns-then-is_far : goal.returns-then-is_far
returns-then-is_far c =
    may_read c.may_have.result c.args.self.now c.args.names.now.axis c.args.names.now.node true (sym c.is_far.ensures ∙ c.if-is_far.true)
    (subst (λ (cell : Cell). OnFalse c.may_have.result ((u : ℕ) → has c.args.self.now.far u cell ≡ false)) c.filed-cell.ensures c.may_have.ensures)

pub returns-else-is_far : goal.returns-else-is_far
returns-else-is_far c =
    may_read c.may_have-else-is_far.result c.args.self.now c.args.names.now.axis c.args.names.now.node false (sym c.is_far.ensures
    ∙ c.if-is_far.false)
    (subst (λ (cell : Cell). OnFalse c.may_have-else-is_far.result ((u : ℕ) →
    has c.args.self.now.near u cell ≡ false)) c.filed-cell.ensures c.may_have-else-is_far.ensures)
