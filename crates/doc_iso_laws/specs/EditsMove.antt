-- Edits at corresponding nodes of trees that are the same give trees that are the same (XPath 1.0, section 5).
use Rattle.std.specs.Prelude.{ℕ, List}
use Rattle.doc_table.specs.Laws.{WellFormed}
use Rattle.doc_table.specs.SameTree.{SameTree}
use Rattle.doc_table.specs.Table.{Name, Table}
use Rattle.doc_edits.specs.Changes.{deleted, gained, inserted, removed, renamed, said}
use Rattle.doc_edits.specs.Fitting.{MayGain, MayGo, MayTake}
use Rattle.tree_iso.specs.Renumbering.{Renumbers}

-- edits that make no numbers leave the numbers as they correspond
pub record ChangesMove : Type 0 where
  pub saying : (f : ℕ → ℕ) (T U : Table) (n : ℕ) (new : List ℕ) → WellFormed T → WellFormed U → Renumbers f T U → Renumbers f (said T n new) (said U (f n) new)
  pub renaming : (f : ℕ → ℕ) (T U : Table) (n : ℕ) (name : Name) → WellFormed T → WellFormed U → Renumbers f T U → Renumbers f (renamed T n name) (renamed U (f n) name)
  pub removal : (f : ℕ → ℕ) (T U : Table) (n : ℕ) → WellFormed T → WellFormed U → Renumbers f T U → MayGo T n → Renumbers f (removed T n) (removed U (f n))
  pub deletion : (f : ℕ → ℕ) (T U : Table) (n : ℕ) → WellFormed T → WellFormed U → Renumbers f T U → Renumbers f (deleted T n) (deleted U (f n))

-- edits that make numbers give each tree its own
pub record AdditionsMove : Type 0 where
  pub gain : (f : ℕ → ℕ) (T U : Table) (n : ℕ) (name : Name) (value : List ℕ) → WellFormed T → WellFormed U → Renumbers f T U →
      MayGain T n name value → MayGain U (f n) name value → SameTree (gained T n name value) (gained U (f n) name value)
  pub insertion : (f : ℕ → ℕ) (T U P : Table) (p before : ℕ) → WellFormed T → WellFormed U → WellFormed P → Renumbers f T U →
      MayTake T p before P → MayTake U (f p) before P → SameTree (inserted T p before P) (inserted U (f p) before P)
