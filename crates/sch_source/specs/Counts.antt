-- Nodes of a schema that count.
use Rattle.std.specs.Prelude.{◌≡◌, ℕ, true, false}
use Rattle.doc_tree.specs.Table.{Table, is_live}
use Rattle.sch_rules.specs.Elements.{is_foreign, is_ignored}

-- the node lives, and stands in no element of another namespace
pub record Stands (T : Table) (n : ℕ) : Type 0 where
  pub lives : is_live T n ≡ true
  pub counts : is_ignored T n ≡ false

-- and is none itself
pub record Counts (T : Table) (n : ℕ) : Type 0 where
  pub stands : Stands T n
  pub own : is_foreign T n ≡ false
