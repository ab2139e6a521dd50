-- Edits one after another: the tree that they make, and the cells that they touch.
use Rattle.std.specs.Prelude.{◌≡◌, ℕ, Bool, true, false, ◌||◌, List, Some}
use Rattle.doc_tree.specs.cell.Cell.{Cell}
use Rattle.doc_tree.specs.kind.Kind.TheVariants.{Attribute}
use Rattle.doc_tree.specs.Kinds.{can_be_kid}
use Rattle.doc_tree.specs.Laws.{WellFormed}
use Rattle.doc_tree.specs.Table.{Name, Table, kind_of, parent_of}
use Rattle.doc_edit_laws.specs.Agreement.{Agree, IsTree}
use Rattle.doc_edits.specs.Changes.{deleted, gained, inserted, removed, renamed, said}
use Rattle.doc_edits.specs.Fitting.{MayGain, MayRename, MaySay, MayTake}
use Rattle.doc_edit_laws.specs.Touching.{touched_attributes, touched_deletion, touched_kids, touched_name, touched_saying}

-- an edit of a tree, with the tree that it makes and the cells that it touches
pub data Edit (T : Table) : Table → (Cell → Bool) → Type 0 where
  says : (n : ℕ) (new : List ℕ) → MaySay T n new → Edit T (said T n new) (touched_saying T n)
  renames : (n : ℕ) (name : Name) → MayRename T n name → Edit T (renamed T n name) (touched_name n)
  gains : (n : ℕ) (name : Name) (value : List ℕ) → MayGain T n name value → Edit T (gained T n name value) (touched_attributes n)
  loses : (a n : ℕ) → kind_of T a ≡ Some Attribute → parent_of T a ≡ Some n → Edit T (removed T a) (touched_attributes n)
  deletes : (n p : ℕ) → can_be_kid (kind_of T n) ≡ true → parent_of T n ≡ Some p → Edit T (deleted T n) (touched_deletion T n p)
  inserts : (p before : ℕ) (P : Table) → WellFormed P → MayTake T p before P → Edit T (inserted T p before P) (touched_kids T p)

-- edits one after another touch what each of them touches
pub data Edits (T : Table) : Table → (Cell → Bool) → Type 0 where
  none : Edits T T (λ _. false)
  then : (U V : Table) (before last : Cell → Bool) → Edits T U before → Edit U V last → Edits T V (λ c. before c || last c)

-- a tree stays a tree, and outside the touched cells it stays as it was
pub record Left (T U : Table) (touched : Cell → Bool) : Type 0 where
  pub before : IsTree T
  pub after : IsTree U
  pub agree : Agree T U touched

abbrev pub EditsLeave : Type 0
EditsLeave = (T U : Table) (touched : Cell → Bool) → WellFormed T → Edits T U touched → Left T U touched
