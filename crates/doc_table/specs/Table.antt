-- The tree table (XPath 1.0, section 5): what stands at each node number.
use Rattle.std.specs.Prelude.{◌≡◌, ℕ, ◌<◌, ◌==◌, Bool, true, false, List, [], ◌∷◌, length, Option, None, Some, is_some, slice_index_or}
pub use Rattle.doc_names.specs.Name.{Name, expanded, no_name, numbered}
use Rattle.doc_table.specs.declared.limits.TheConstants.{MAX_LIVE_NODES}
use Rattle.doc_table.specs.declared.kind.Kind.{Kind}
use Rattle.doc_table.specs.declared.kind.Kind.TheVariants.{Root, Element, Attribute, Text, Comment, Pi}

-- what a node holds by its kind; an element has a name and declarations, each a prefix and its namespace
pub data Content : Type 0 where
  root : Content
  element : Name → List (List ℕ × List ℕ) → Content
  attribute : Name → List ℕ → Content
  text : List ℕ → Content
  comment : List ℕ → Content
  instruction : Name → List ℕ → Content

-- a node: its parent, its kids and attributes in their order, and its content
pub record Facts : Type 0 where
  pub parent : Option ℕ
  pub kids : List ℕ
  pub attributes : List ℕ
  pub content : Content

-- the nodes by number, None where a node was deleted
abbrev pub Table : Type 0
Table = List (Option Facts)

-- a tree: its table, the names that it has numbered, and its pair cap, beyond which no edit adds live nodes
pub record Contents : Type 0 where
  pub nodes : Table
  pub names : List Name
  pub pair_cap : ℕ

-- the kind that a content has
abbrev pub kind_in : Content → Kind
kind_in root = Root
kind_in (element _ _) = Element
kind_in (attribute _ _) = Attribute
kind_in (text _) = Text
kind_in (comment _) = Comment
kind_in (instruction _ _) = Pi

-- the name that a content has: of an element, an attribute or a processing instruction
abbrev pub name_in : Content → Option Name
name_in root = None
name_in (element name _) = Some name
name_in (attribute name _) = Some name
name_in (text _) = None
name_in (comment _) = None
name_in (instruction name _) = Some name

-- the declarations that a content has
abbrev pub decls_in : Content → List (List ℕ × List ℕ)
decls_in root = []
decls_in (element _ decls) = decls
decls_in (attribute _ _) = []
decls_in (text _) = []
decls_in (comment _) = []
decls_in (instruction _ _) = []

-- the attribute's value, the characters, or the instruction's data; empty for the root and elements
abbrev pub value_in : Content → List ℕ
value_in root = []
value_in (element _ _) = []
value_in (attribute _ value) = value
value_in (text characters) = characters
value_in (comment characters) = characters
value_in (instruction _ characters) = characters

-- the node at a number, None where no node lives there
abbrev pub entry_at : Table → ℕ → Option Facts
entry_at T n = slice_index_or T n None

abbrev pub parent_at : Option Facts → Option ℕ
parent_at None = None
parent_at (Some node) = node.parent

abbrev pub kids_at : Option Facts → List ℕ
kids_at None = []
kids_at (Some node) = node.kids

abbrev pub attrs_at : Option Facts → List ℕ
attrs_at None = []
attrs_at (Some node) = node.attributes

abbrev pub content_at : Option Facts → Option Content
content_at None = None
content_at (Some node) = Some node.content

-- a word on contents, read where a node lives
abbrev pub kind_at : Option Content → Option Kind
kind_at None = None
kind_at (Some content) = Some (kind_in content)

abbrev pub name_at : Option Content → Option Name
name_at None = None
name_at (Some content) = name_in content

abbrev pub decls_at : Option Content → List (List ℕ × List ℕ)
decls_at None = []
decls_at (Some content) = decls_in content

abbrev pub value_at : Option Content → List ℕ
value_at None = []
value_at (Some content) = value_in content

-- whether a node lives at the number
abbrev pub is_live : Table → ℕ → Bool
is_live T n = is_some (entry_at T n)

abbrev pub parent_of : Table → ℕ → Option ℕ
parent_of T n = parent_at (entry_at T n)

abbrev pub kids_of : Table → ℕ → List ℕ
kids_of T n = kids_at (entry_at T n)

-- the kids of a parent, where there is one
abbrev pub kids_above : Table → Option ℕ → List ℕ
kids_above T None = []
kids_above T (Some p) = kids_of T p

-- whether a parent is the root
abbrev pub is_root : Option ℕ → Bool
is_root None = false
is_root (Some n) = n == 0

abbrev pub attrs_of : Table → ℕ → List ℕ
attrs_of T n = attrs_at (entry_at T n)

abbrev pub content_of : Table → ℕ → Option Content
content_of T n = content_at (entry_at T n)

abbrev pub kind_of : Table → ℕ → Option Kind
kind_of T n = kind_at (content_of T n)

abbrev pub name_of : Table → ℕ → Option Name
name_of T n = name_at (content_of T n)

abbrev pub decls_of : Table → ℕ → List (List ℕ × List ℕ)
decls_of T n = decls_at (content_of T n)

abbrev pub value_of : Table → ℕ → List ℕ
value_of T n = value_at (content_of T n)

-- the expanded name of a node (Namespaces in XML 1.0, section 2.1)
abbrev pub expanded_in : Option Name → Option (List ℕ × List ℕ)
expanded_in None = None
expanded_in (Some name) = Some (expanded name)

abbrev pub expanded_of : Table → ℕ → Option (List ℕ × List ℕ)
expanded_of T n = expanded_in (name_of T n)

-- every number ever made is live
abbrev pub AllLive : Table → Type 0
AllLive T = (n : ℕ) → n < length T → is_live T n ≡ true

-- a tree of the root alone; its pair cap is the most that a tree can hold
abbrev pub root_alone : Contents
root_alone = record {
  nodes = Some (record { parent = None; kids = []; attributes = []; content = root }) ∷ [];
  names = [];
  pair_cap = MAX_LIVE_NODES;
}
