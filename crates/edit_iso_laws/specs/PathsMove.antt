-- In trees that are the same, what names a node names corresponding nodes (Namespaces in XML 1.0, section 6).
use Rattle.std.specs.Prelude.{◌≡◌, ℕ, List, option_map}
use Rattle.doc_tree.specs.Laws.{WellFormed}
use Rattle.doc_tree.specs.NameTests.{attribute_meant, attribute_named}
use Rattle.doc_tree.specs.Scope.{scope_at}
use Rattle.doc_tree.specs.Table.{Table}
use Rattle.edit_script.specs.declared.command.PathStep.{PathStep}
use Rattle.edit_commands.specs.Paths.{node_named}
use Rattle.tree_iso.specs.Renumbering.{Renumbers}

pub record PathsMove : Type 0 where
  pub path : (f : ℕ → ℕ) (T U : Table) (path : List PathStep) → WellFormed T → WellFormed U → Renumbers f T U → node_named U path ≡ option_map f (node_named T path)
  -- the declarations in scope are the same, so that prefixes mean the same
  pub scope : (f : ℕ → ℕ) (T U : Table) (n : ℕ) → WellFormed T → WellFormed U → Renumbers f T U → scope_at U (f n) ≡ scope_at T n
  -- attributes by their expanded names, and by QNames
  pub attribute : (f : ℕ → ℕ) (T U : Table) (n : ℕ) (uri local : List ℕ) → Renumbers f T U → attribute_named U (f n) uri local ≡ option_map f (attribute_named T n uri local)
  pub meant : (f : ℕ → ℕ) (T U : Table) (n : ℕ) (prefix local : List ℕ) → WellFormed T → WellFormed U → Renumbers f T U →
      attribute_meant U (f n) prefix local ≡ option_map f (attribute_meant T n prefix local)
