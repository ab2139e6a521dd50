-- Edits and documents: the root has one element among its kids and no text.
use Rattle.std.specs.Prelude.{◌≡◌, ℕ, true, false, List, Some}
use Rattle.doc_table.specs.Laws.{WellFormed}
use Rattle.doc_table.specs.Kinds.{is_document, is_element, is_text}
use Rattle.doc_table.specs.Table.{Name, Table, kind_of, parent_of}
use Rattle.doc_edits.specs.Changes.{deleted, gained, inserted, renamed, said}
use Rattle.doc_edits.specs.Fitting.{MayTake}

pub record EditsKeepDocuments : Type 0 where
  pub saying : (T : Table) (n : ℕ) (new : List ℕ) → is_document T ≡ true → is_document (said T n new) ≡ true
  pub renaming : (T : Table) (n : ℕ) (name : Name) → is_document T ≡ true → is_document (renamed T n name) ≡ true
  -- the document element stays
  pub deletion : (T : Table) (n : ℕ) → WellFormed T → is_document T ≡ true → (parent_of T n ≡ Some 0 → is_element (kind_of T n) ≡ false) → is_document (deleted T n) ≡ true
  pub gain : (T : Table) (n : ℕ) (name : Name) (value : List ℕ) → WellFormed T → is_document T ≡ true → is_document (gained T n name value) ≡ true
  -- no element and no text comes under the root
  pub insertion : (T : Table) (p before : ℕ) (P : Table) → WellFormed T → WellFormed P → is_document T ≡ true → (may : MayTake T p before P) →
      (p ≡ 0 → (is_element (kind_of P may.top) ≡ false) × (is_text (kind_of P may.top) ≡ false)) → is_document (inserted T p before P) ≡ true
