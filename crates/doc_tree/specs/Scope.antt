-- Prefixes in scope: each has the namespace of its nearest declaration (Namespaces in XML 1.0, sections 3 and 6).
use Rattle.std.specs.Prelude.{ℕ, List, [], ◌∷◌, Option, None, Some, codes, if◌then◌else◌, slice_index_or, unwrap_or}
use Rattle.std.specs.Option.{option_or}
use Rattle.std.specs.Str.{bytes_eq}
use Rattle.doc_table.specs.Table.{Table}
pub use Rattle.doc_table.specs.Scope.{Decl, scope_at, HasScopes}

-- the namespace that the first declaration of a prefix gives it
abbrev pub first_declared : List Decl → List ℕ → Option (List ℕ)
first_declared [] prefix = None
first_declared (decl ∷ decls) prefix = if bytes_eq decl.0 prefix then Some decl.1 else first_declared decls prefix

-- the prefix `xmlns`, which is in no scope, and the prefix `xml` with its namespace, which is in each (section 3)
unfoldable pub xmlns_prefix : List ℕ
xmlns_prefix = codes "xmlns"

unfoldable pub xml_prefix : List ℕ
xml_prefix = codes "xml"

unfoldable pub xml_namespace : List ℕ
xml_namespace = codes "http://www.w3.org/XML/1998/namespace"

-- without a declaration there is no default namespace, and another prefix is not in scope (section 6.2)
abbrev pub undeclared : List ℕ → Option (List ℕ)
undeclared [] = Some []
undeclared (b ∷ prefix) = None

-- the namespace of a prefix where these declarations are in scope, nearest first; None where the prefix is not in scope
abbrev pub namespace_in : List Decl → List ℕ → Option (List ℕ)
namespace_in scope prefix =
    if bytes_eq prefix xmlns_prefix then None
    else if bytes_eq prefix xml_prefix then Some xml_namespace
    else option_or (first_declared scope prefix) (undeclared prefix)

-- the namespace of a prefix in scope at a node
abbrev pub namespace_at : Table → ℕ → List ℕ → Option (List ℕ)
namespace_at T n prefix = namespace_in (scope_at T n) prefix

-- the namespace of an attribute's prefix; an attribute without a prefix has none (section 6.2)
abbrev pub attribute_namespace : List Decl → List ℕ → Option (List ℕ)
attribute_namespace scope [] = Some []
attribute_namespace scope (b ∷ prefix) = namespace_in scope (b ∷ prefix)

-- the namespace of an attribute's prefix at an element, none where the prefix is not in scope
abbrev pub namespace_or_none : Table → ℕ → List ℕ → List ℕ
namespace_or_none T n prefix = unwrap_or (attribute_namespace (scope_at T n) prefix) []

-- the declaration at a place of a list, empty past the end
abbrev pub decl_at : List Decl → ℕ → Decl
decl_at decls i = slice_index_or decls i ([], [])
