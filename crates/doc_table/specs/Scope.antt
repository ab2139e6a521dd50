-- The declarations in scope at a node: those of the node and of all above it (Namespaces in XML 1.0, section 6).
use Rattle.std.specs.Prelude.{◌≡◌, ℕ, true, List, ◌++◌, None, Some}
use Rattle.std.specs.List.{flat_map}
use Rattle.doc_table.specs.Lists.{mem}
use Rattle.doc_table.specs.Table.{Table, decls_of, parent_of, is_live}
use Rattle.doc_table.specs.Walks.{above}

-- a declaration: a prefix, empty for the default namespace, and its namespace
abbrev pub Decl : Type 0
Decl = List ℕ × List ℕ

-- the declarations at a node and above it, nearest first
abbrev pub scope_at : Table → ℕ → List Decl
scope_at T n = flat_map (decls_of T) (above T n)

-- scopes along the ways up
pub record HasScopes (T : Table) : Type 0 where
  pub under : (n p : ℕ) → parent_of T n ≡ Some p → scope_at T n ≡ decls_of T n ++ scope_at T p
  pub at_top : (n : ℕ) → parent_of T n ≡ None → scope_at T n ≡ decls_of T n
  pub way_live : (n m : ℕ) → is_live T n ≡ true → mem m (above T n) ≡ true → is_live T m ≡ true
