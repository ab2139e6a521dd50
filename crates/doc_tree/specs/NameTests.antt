-- Tests of the names of nodes, which fail where there is no name.
use Rattle.std.specs.Prelude.{ℕ, Bool, false, ◌&&◌, List, Option, None, Some, bytes_eq, find}
use Rattle.doc_table.specs.Table.{Table, Name, attrs_of, name_of}
use Rattle.doc_tree.specs.Scope.{attribute_namespace, scope_at}

abbrev pub named : Option Name → (Name → Bool) → Bool
named None test = false
named (Some name) test = test name

-- whether a node has this expanded name: the namespace, empty for none, and the local part
abbrev pub has_name : Table → ℕ → List ℕ → List ℕ → Bool
has_name T n uri local = named (name_of T n) (λ name. bytes_eq name.uri uri && bytes_eq name.local local)

-- the attribute of an element with this expanded name, where there is one
abbrev pub attribute_named : Table → ℕ → List ℕ → List ℕ → Option ℕ
attribute_named T n uri local = find (λ a. has_name T a uri local) (attrs_of T n)

abbrev pub attribute_in : Table → ℕ → Option (List ℕ) → List ℕ → Option ℕ
attribute_in T n None local = None
attribute_in T n (Some uri) local = attribute_named T n uri local

-- the attribute that a QName means at an element (Namespaces in XML 1.0, section 6); none where its prefix is not in scope
abbrev pub attribute_meant : Table → ℕ → List ℕ → List ℕ → Option ℕ
attribute_meant T n prefix local = attribute_in T n (attribute_namespace (scope_at T n) prefix) local
