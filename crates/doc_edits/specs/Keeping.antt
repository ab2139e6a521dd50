-- A tree stays a tree: each change that fits makes of a well-formed table a well-formed one (XPath 1.0, section 5).
use Rattle.std.specs.Prelude.{◌≡◌, ℕ, List, ◌++◌}
use Rattle.doc_table.specs.Laws.{WellFormed}
use Rattle.doc_table.specs.Table.{Name, Table}
use Rattle.doc_edits.specs.Changes.{deleted, gained, inserted, removed, renamed, said}
use Rattle.doc_edits.specs.Fitting.{MayGain, MayGo, MayRename, MaySay, MayTake}

abbrev pub SayingsKeepTrees : Type 0
SayingsKeepTrees = (T : Table) (n : ℕ) (new : List ℕ) → WellFormed T → MaySay T n new → WellFormed (said T n new)

abbrev pub RenamesKeepTrees : Type 0
RenamesKeepTrees = (T : Table) (n : ℕ) (name : Name) → WellFormed T → MayRename T n name → WellFormed (renamed T n name)

abbrev pub RemovalsKeepTrees : Type 0
RemovalsKeepTrees = (T : Table) (n : ℕ) → WellFormed T → MayGo T n → WellFormed (removed T n)

-- of two texts that meet one is left, so that any node may be deleted
abbrev pub DeletionsKeepTrees : Type 0
DeletionsKeepTrees = (T : Table) (n : ℕ) → WellFormed T → WellFormed (deleted T n)

abbrev pub GainsKeepTrees : Type 0
GainsKeepTrees = (T : Table) (n : ℕ) (name : Name) (value : List ℕ) → WellFormed T → MayGain T n name value → WellFormed (gained T n name value)

abbrev pub InsertionsKeepTrees : Type 0
InsertionsKeepTrees = (T : Table) (p before : ℕ) (P : Table) → WellFormed T → WellFormed P → MayTake T p before P → WellFormed (inserted T p before P)

-- names that stay, with perhaps more behind them
abbrev pub NamesGrow : List Name → List Name → Type 0
NamesGrow before after = (more : List Name) × (after ≡ before ++ more)
