-- What edits leave: two trees, before an edit and after it, agree outside the touched cells.
use Rattle.std.specs.Prelude.{◌≡◌, ℕ, true, List, Some}
use Rattle.doc_tree.specs.kind.Kind.TheVariants.{Attribute}
use Rattle.doc_tree.specs.Kinds.{can_be_kid}
use Rattle.doc_tree.specs.Laws.{WellFormed}
use Rattle.doc_tree.specs.Table.{Name, Table, kind_of, parent_of}
use Rattle.doc_edit_laws.specs.Agreement.{Agree}
use Rattle.doc_edits.specs.Changes.{deleted, gained, inserted, removed, renamed, said}
use Rattle.doc_edits.specs.Fitting.{MayGain, MayRename, MaySay, MayTake}
use Rattle.doc_edit_laws.specs.Touching.{touched_attributes, touched_deletion, touched_kids, touched_name, touched_saying}

abbrev pub SayingsLeave : Type 0
SayingsLeave = (T : Table) (n : ℕ) (new : List ℕ) → WellFormed T → MaySay T n new → Agree T (said T n new) (touched_saying T n)

abbrev pub RenamesLeave : Type 0
RenamesLeave = (T : Table) (n : ℕ) (name : Name) → WellFormed T → MayRename T n name → Agree T (renamed T n name) (touched_name n)

pub record AttributesLeave : Type 0 where
  pub gain : (T : Table) (n : ℕ) (name : Name) (value : List ℕ) → WellFormed T → MayGain T n name value → Agree T (gained T n name value) (touched_attributes n)
  pub loss : (T : Table) (a n : ℕ) → WellFormed T → kind_of T a ≡ Some Attribute → parent_of T a ≡ Some n → Agree T (removed T a) (touched_attributes n)

abbrev pub DeletionsLeave : Type 0
DeletionsLeave = (T : Table) (n p : ℕ) → WellFormed T → can_be_kid (kind_of T n) ≡ true → parent_of T n ≡ Some p → Agree T (deleted T n) (touched_deletion T n p)

abbrev pub InsertionsLeave : Type 0
InsertionsLeave = (T : Table) (p before : ℕ) (P : Table) → WellFormed T → WellFormed P → MayTake T p before P → Agree T (inserted T p before P) (touched_kids T p)
