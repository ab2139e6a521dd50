-- How a declaration changes a tree: its element has one declaration more, the last of them.
use Rattle.std.specs.Prelude.{◌≡◌, ◌≢◌, ℕ, true, List, [], ◌∷◌, ◌++◌, length, Option, None, Some, slice_set}
use Rattle.std.specs.List.{flat_map}
use Rattle.doc_table.specs.Table.{Table, Name, Facts, Content, root, element, attribute, text, comment, instruction, entry_at, parent_of, kids_of, attrs_of, content_of, kind_of, name_of, decls_of, value_of, is_live, AllLive}
use Rattle.doc_table.specs.Walks.{order, above, ancestors, is_open, text_bytes}
use Rattle.doc_table.specs.Lines.{Line, declares, lines, closing}
use Rattle.doc_table.specs.Scope.{Decl, scope_at}

-- an element's content with one declaration more
abbrev pub declaring : Decl → Content → Content
declaring decl root = root
declaring decl (element name decls) = element name (decls ++ decl ∷ [])
declaring decl (attribute name value) = attribute name value
declaring decl (text characters) = text characters
declaring decl (comment characters) = comment characters
declaring decl (instruction name characters) = instruction name characters

abbrev pub declaring_at : Decl → Option Facts → Option Facts
declaring_at decl None = None
declaring_at decl (Some node) = Some (record node { content = declaring decl node.content })

-- the table with one declaration more at an element
abbrev pub with_decl : Table → ℕ → Decl → Table
with_decl T n decl = slice_set T n (declaring_at decl (entry_at T n))

-- a declaration at an element that holds nothing yet and after which nothing stands
pub record DeclaredLast (T U : Table) (n : ℕ) (decl : Decl) : Type 0 where
  -- the document: what was read before, the declaration, and the ends of what is open
  pub read_on : (before : List Line) → is_open T n ≡ true → lines T ≡ before ++ closing T n → lines U ≡ (before ++ declares decl ∷ []) ++ closing U n
  -- the scopes: its own, and those of others, which do not change
  pub scope : scope_at U n ≡ (decls_of T n ++ decl ∷ []) ++ flat_map (decls_of T) (ancestors T n)
  pub same_scope : (m : ℕ) → m ≢ n → scope_at U m ≡ scope_at T m

-- U is T with a declaration more at the element n
pub record Declared (T U : Table) (n : ℕ) (decl : Decl) : Type 0 where
  pub table : U ≡ with_decl T n decl
  -- the element's declarations
  pub decls : decls_of U n ≡ decls_of T n ++ decl ∷ []
  pub content : (name : Name) (decls : List Decl) → content_of T n ≡ Some (element name decls) → content_of U n ≡ Some (element name (decls ++ decl ∷ []))
  pub same_name : name_of U n ≡ name_of T n
  -- all else stays
  pub same_length : length U ≡ length T
  pub same_live : (m : ℕ) → is_live U m ≡ is_live T m
  pub all_live : AllLive T → AllLive U
  pub same_content : (m : ℕ) → m ≢ n → content_of U m ≡ content_of T m
  pub same_kind : (m : ℕ) → kind_of U m ≡ kind_of T m
  pub same_value : (m : ℕ) → value_of U m ≡ value_of T m
  pub same_parent : (m : ℕ) → parent_of U m ≡ parent_of T m
  pub same_kids : (m : ℕ) → kids_of U m ≡ kids_of T m
  pub same_attributes : (m : ℕ) → attrs_of U m ≡ attrs_of T m
  pub same_order : order U ≡ order T
  pub same_ways_up : (m : ℕ) → above U m ≡ above T m
  pub same_open : (m : ℕ) → is_open U m ≡ is_open T m
  pub same_text : text_bytes U ≡ text_bytes T
  pub same_closing : (m : ℕ) → closing U m ≡ closing T m
  pub while_last : kids_of T n ≡ [] → attrs_of T n ≡ [] → DeclaredLast T U n decl
