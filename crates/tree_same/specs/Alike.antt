-- What a comparison of two nodes with all below them tells, each in its own tree: yes by lines, no by renumbering.
use Rattle.std.specs.Prelude.{◌≡◌, ℕ, Bool, true, false}
use Rattle.std.specs.List.{flat_map}
use Rattle.doc_table.specs.Table.{Table, attrs_of}
use Rattle.doc_table.specs.Lines.{lines_below, opens}
use Rattle.tree_iso.specs.Renumbering.{Renumbers}

-- no renumbering of the first tree as the second one sends the first node to the second
abbrev pub AreApart : Table → Table → ℕ → ℕ → Type 0
AreApart T U n m = (f : ℕ → ℕ) → Renumbers f T U → f n ≡ m → ⊥

-- of all below the nodes
pub record AlikeBelow (T U : Table) (n m : ℕ) (answer : Bool) : Type 0 where
  pub told : answer ≡ true → lines_below U m ≡ lines_below T n
  pub other : answer ≡ false → AreApart T U n m

-- of their attributes
pub record AlikeAttributes (T U : Table) (n m : ℕ) (answer : Bool) : Type 0 where
  pub told : answer ≡ true → flat_map (opens U) (attrs_of U m) ≡ flat_map (opens T) (attrs_of T n)
  pub other : answer ≡ false → AreApart T U n m
