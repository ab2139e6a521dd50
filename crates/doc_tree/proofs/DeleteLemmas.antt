-- A node against whose deletion nothing speaks is not the document element.
use Rattle.std.proofs.Common.{◌≡◌, ℕ, Bool, true, false, not, ◌&&◌, Option, None, refl, sym, ap, ◌∙◌, true≢false}
use Rattle.doc_table.specs.Kinds.{can_be_kid, is_document, is_element}
use Rattle.doc_table.specs.Table.{Table, is_root, kind_of, parent_of}
use Rattle.doc_table.specs.Laws.{WellFormed}
use Rattle.doc_edits.specs.Changes.{deleted}
use Rattle.doc_edits.specs.Documents.{EditsKeepDocuments}
use Rattle.doc_tree.specs.declared.refusal.EditRefusal.{EditRefusal}
use Rattle.doc_tree.specs.declared.refusal.EditRefusal.TheVariants.{WrongKind, RootElement}
use Rattle.doc_tree.specs.Refusals.{deletion_refusal}
use Rattle.doc_tree.proofs.RefusalLemmas.{none-of-two}

pub document-kept : (T : Table) (n : ℕ) (reason : Option EditRefusal) → EditsKeepDocuments → WellFormed T → reason ≡ deletion_refusal T n → reason ≡ None →
    is_document T ≡ true → is_document (deleted T n) ≡ true
document-kept T n reason keeps formed is free document =
    keeps.deletion T n formed document (λ root.
    swap (is_element (kind_of T n)) (is_root (parent_of T n))
    (none-of-two (not (can_be_kid (kind_of T n))) (is_element (kind_of T n) && is_root (parent_of T n)) WrongKind RootElement (sym is ∙ free)).1 (ap is_root root))
  where
    swap : (b c : Bool) → (b && c) ≡ false → c ≡ true → b ≡ false
    swap true c h e = absurd (true≢false (sym e ∙ h))
    swap false c h e = refl
