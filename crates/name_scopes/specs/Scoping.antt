-- When a tree is in scope: each name has the namespace of the nearest declaration of its prefix (Namespaces in XML 1.0
-- section 6).
use Rattle.std.specs.Prelude.{◌≡◌, ◌≢◌, ℕ, Bool, true, false, not, ◌&&◌, ◌||◌, List, [], ◌∷◌, Option, None, Some}
use Rattle.std.specs.List.{list_any, list_all}
use Rattle.std.specs.Str.{bytes_eq}
use Rattle.sch_base.specs.Lists.{is_nil}
use Rattle.sch_base.specs.Names.{is_ncname}
use Rattle.pyx_core.specs.Nesting.{is_pi_name, of_chars}
use Rattle.doc_tree.specs.Table.{Table, Name, Content, root, element, attribute, text, comment, instruction, content_of}
use Rattle.doc_tree.specs.Scope.{Decl, namespace_in, scope_at, xmlns_prefix}
pub use Rattle.doc_tree.specs.Scope.{attribute_namespace}
use Rattle.name_scopes.specs.Declarations.{is_bad_declaration, has_both_quotes}

-- whether a text is an NCName
abbrev pub is_part : List ℕ → Bool
is_part name = of_chars name && is_ncname name

-- the prefix is empty or an NCName, and the local part is an NCName (section 4)
abbrev pub is_qualified : Name → Bool
is_qualified name = (is_nil name.prefix || is_part name.prefix) && is_part name.local

-- whether some prefix is declared twice
abbrev pub declares_twice : List Decl → Bool
declares_twice [] = false
declares_twice (decl ∷ decls) = list_any (λ later. bytes_eq decl.0 later.0) decls || declares_twice decls

-- a declaration that may be: its prefix is empty or an NCName, its namespace is made of Chars, and it breaks no rule
abbrev pub is_good_declaration : Decl → Bool
is_good_declaration decl =
    (is_nil decl.0 || is_part decl.0) && of_chars decl.1 && not (is_bad_declaration decl) && not (has_both_quotes decl)

-- an element, where these declarations are in scope, its own among them
pub record ElementInScope (scope : List Decl) (name : Name) (decls : List Decl) : Type 0 where
  pub named : is_qualified name ≡ true
  pub namespace : namespace_in scope name.prefix ≡ Some name.uri
  pub declared : list_all is_good_declaration decls ≡ true
  pub once : declares_twice decls ≡ false

-- an attribute of an element
pub record AttributeInScope (scope : List Decl) (name : Name) (value : List ℕ) : Type 0 where
  pub named : is_qualified name ≡ true
  pub namespace : attribute_namespace scope name.prefix ≡ Some name.uri
  pub no_declaration : name.prefix ≡ [] → name.local ≢ xmlns_prefix
  pub made : of_chars value ≡ true

-- a processing instruction, whose name is its target
pub record InstructionInScope (name : Name) (body : List ℕ) : Type 0 where
  pub no_prefix : name.prefix ≡ []
  pub no_namespace : name.uri ≡ []
  pub named : is_pi_name name.local ≡ true
  pub made : of_chars body ≡ true

-- a node of this content, where these declarations are in scope
abbrev pub ContentInScope : List Decl → Option Content → Type 0
ContentInScope scope None = Unit {0}
ContentInScope scope (Some root) = Unit {0}
ContentInScope scope (Some (element name decls)) = ElementInScope scope name decls
ContentInScope scope (Some (attribute name value)) = AttributeInScope scope name value
ContentInScope scope (Some (text characters)) = of_chars characters ≡ true
ContentInScope scope (Some (comment characters)) = of_chars characters ≡ true
ContentInScope scope (Some (instruction name body)) = InstructionInScope name body

abbrev pub NodeInScope : Table → ℕ → Type 0
NodeInScope T n = ContentInScope (scope_at T n) (content_of T n)

-- each node is in scope
abbrev pub InScope : Table → Type 0
InScope T = (n : ℕ) → NodeInScope T n
