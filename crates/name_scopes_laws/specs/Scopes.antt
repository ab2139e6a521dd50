-- Edits and scope (Namespaces in XML 1.0, section 6): each name keeps the namespace of the nearest declaration of its prefix.
use Rattle.std.specs.Prelude.{◌≡◌, ◌≢◌, ℕ, true, List, [], Some}
use Rattle.pyx_core.specs.Nesting.{of_chars}
use Rattle.doc_tree.specs.kind.Kind.TheVariants.{Element}
use Rattle.doc_tree.specs.Laws.{WellFormed}
use Rattle.doc_tree.specs.Lists.{mem}
use Rattle.doc_tree.specs.Scope.{attribute_namespace, namespace_at, scope_at, xmlns_prefix}
use Rattle.doc_tree.specs.Table.{Name, Table, attrs_of, kind_of}
use Rattle.doc_edits.specs.Changes.{deleted, gained, inserted, removed, renamed, said}
use Rattle.doc_edits.specs.Fitting.{MayGain, MayRename, MaySay, MayTake}
use Rattle.name_scopes.specs.Fragments.{PieceInScope}
use Rattle.name_scopes.specs.Scoping.{AttributeInScope, InScope, is_qualified}

-- a node says another text, which is made of Chars
abbrev pub SayingsKeepScope : Type 0
SayingsKeepScope = (T : Table) (n : ℕ) (new : List ℕ) → WellFormed T → InScope T → MaySay T n new → of_chars new ≡ true → InScope (said T n new)

-- an element or an attribute gets another name, with the namespace that its prefix has there
pub record RenamesKeepScope : Type 0 where
  pub element : (T : Table) (n : ℕ) (name : Name) → WellFormed T → InScope T → MayRename T n name → kind_of T n ≡ Some Element →
      is_qualified name ≡ true → namespace_at T n name.prefix ≡ Some name.uri → InScope (renamed T n name)
  pub attribute : (T : Table) (a n : ℕ) (name : Name) → WellFormed T → InScope T → MayRename T a name → mem a (attrs_of T n) ≡ true →
      is_qualified name ≡ true → attribute_namespace (scope_at T n) name.prefix ≡ Some name.uri → (name.prefix ≡ [] → name.local ≢ xmlns_prefix) →
      InScope (renamed T a name)

-- a node is deleted, or a node or an attribute is removed
pub record DeletionsKeepScope : Type 0 where
  pub deletion : (T : Table) (n : ℕ) → WellFormed T → InScope T → InScope (deleted T n)
  pub removal : (T : Table) (n : ℕ) → WellFormed T → InScope T → InScope (removed T n)

-- an attribute comes to an element, a piece comes under a node
pub record AdditionsKeepScope : Type 0 where
  pub gain : (T : Table) (n : ℕ) (name : Name) (value : List ℕ) → WellFormed T → InScope T → MayGain T n name value →
      AttributeInScope (scope_at T n) name value → InScope (gained T n name value)
  pub insertion : (T : Table) (p before : ℕ) (P : Table) → WellFormed T → WellFormed P → InScope T → MayTake T p before P →
      PieceInScope (scope_at T p) P → InScope (inserted T p before P)
