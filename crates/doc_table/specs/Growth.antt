-- How a tree grows at its end: the table with one node more, the last one in document order.
use Rattle.std.specs.Prelude.{◌≡◌, ◌≢◌, ℕ, ◌+◌, ◌<◌, Bool, true, false, List, [], ◌∷◌, ◌++◌, length, Option, None, Some, slice_set, nat_lt, nat_le, if◌then◌else◌}
use Rattle.doc_table.specs.declared.kind.Kind.TheVariants.{Element}
use Rattle.doc_table.specs.declared.new_node.NewNode.{NewNode}
use Rattle.doc_table.specs.declared.new_node.NewNode.TheVariants as new
use Rattle.doc_table.specs.declared.limits.TheConstants.{MAX_DEPTH, MAX_LIVE_NODES, MAX_LIVE_TEXT_BYTES}
use Rattle.doc_table.specs.declared.new_node.AppendError.{AppendError}
use Rattle.doc_table.specs.declared.new_node.AppendError.TheVariants.{TooManyNodes, TooDeep, TooMuchText, Memory}
use Rattle.doc_table.specs.Lists.{mem, last_or}
use Rattle.doc_table.specs.Table.{Table, Facts, Name, Content, root, element, attribute, text, comment, instruction, entry_at, parent_of, kids_of, attrs_of, content_of, kind_of, expanded, expanded_of, is_live, numbered, AllLive, value_in}
use Rattle.doc_table.specs.Kinds.{is_text}
use Rattle.doc_table.specs.Walks.{order, above, is_open, text_bytes}
use Rattle.doc_table.specs.Lines.{Line, lines, closing, first_lines, last_lines}

-- the content that a new node has, by the names that the tree has numbered
abbrev pub content_of_new : List Name → NewNode → Content
content_of_new names (new.Element id) = element (numbered names id) []
content_of_new names (new.Attribute id value) = attribute (numbered names id) value.now
content_of_new names (new.Text characters) = text characters.now
content_of_new names (new.Comment characters) = comment characters.now
content_of_new names (new.Pi id characters) = instruction (numbered names id) characters.now

-- the new node's name, where it has one, is one of the first so many
abbrev pub NameIsKnown : ℕ → NewNode → Type 0
NameIsKnown count (new.Element id) = id < count
NameIsKnown count (new.Attribute id _) = id < count
NameIsKnown count (new.Text _) = Unit {0}
NameIsKnown count (new.Comment _) = Unit {0}
NameIsKnown count (new.Pi id _) = id < count

-- an attribute may come to an element that has no kid yet and no attribute of this expanded name
pub record AttributeFits (T : Table) (parent : ℕ) (name : Name) : Type 0 where
  pub under : kind_of T parent ≡ Some Element
  pub no_kid : kids_of T parent ≡ []
  pub is_new : (a : ℕ) → mem a (attrs_of T parent) ≡ true → expanded_of T a ≢ Some (expanded name)

-- whether the last of the nodes is a text
abbrev pub ends_in_text : Table → List ℕ → Bool
ends_in_text T [] = false
ends_in_text T (n ∷ ns) = is_text (kind_of T (last_or n ns))

-- a text may come where it isn't empty and follows no text
pub record TextFits (T : Table) (parent : ℕ) (characters : List ℕ) : Type 0 where
  pub some : characters ≢ []
  pub apart : ends_in_text T (kids_of T parent) ≡ false

-- what the kind of a new node asks of its place
abbrev pub FitsUnder : Table → ℕ → Content → Type 0
FitsUnder T parent root = ⊥
FitsUnder T parent (element _ _) = Unit {0}
FitsUnder T parent (attribute name _) = AttributeFits T parent name
FitsUnder T parent (text characters) = TextFits T parent characters
FitsUnder T parent (comment _) = Unit {0}
FitsUnder T parent (instruction _ _) = Unit {0}

-- the number, among the kids or among the attributes, by the content
abbrev pub as_kid : Content → ℕ → List ℕ
as_kid root n = []
as_kid (element _ _) n = n ∷ []
as_kid (attribute _ _) n = []
as_kid (text _) n = n ∷ []
as_kid (comment _) n = n ∷ []
as_kid (instruction _ _) n = n ∷ []

abbrev pub as_attribute : Content → ℕ → List ℕ
as_attribute root n = []
as_attribute (element _ _) n = []
as_attribute (attribute _ _) n = n ∷ []
as_attribute (text _) n = []
as_attribute (comment _) n = []
as_attribute (instruction _ _) n = []

-- the parent with one node more, the last of its kids or of its attributes
abbrev pub with_link : Content → ℕ → Option Facts → Option Facts
with_link content n None = None
with_link content n (Some node) = Some (record node {
  kids = node.kids ++ as_kid content n;
  attributes = node.attributes ++ as_attribute content n;
})

-- a node with no kids and no attributes
abbrev pub leaf : ℕ → Content → Facts
leaf parent content = record { parent = Some parent; kids = []; attributes = []; content = content }

-- the table with one node more, which takes the next number
abbrev pub with_node : Table → ℕ → Content → Table
with_node T parent content = slice_set T parent (with_link content (length T) (entry_at T parent)) ++ Some (leaf parent content) ∷ []

-- U is T with the node n under p, the last one in document order
pub record Grew (T U : Table) (p n : ℕ) (c : Content) : Type 0 where
  pub number : n ≡ length T
  pub table : U ≡ with_node T p c
  pub all_live : AllLive U
  pub last_in_order : order U ≡ order T ++ n ∷ []
  -- the new node
  pub parent : parent_of U n ≡ Some p
  pub content : content_of U n ≡ Some c
  pub no_kids : kids_of U n ≡ []
  pub no_attributes : attrs_of U n ≡ []
  -- its parent
  pub parent_kids : kids_of U p ≡ kids_of T p ++ as_kid c n
  pub parent_attributes : attrs_of U p ≡ attrs_of T p ++ as_attribute c n
  -- the others stay
  pub same_parent : (m : ℕ) → m ≢ n → parent_of U m ≡ parent_of T m
  pub same_content : (m : ℕ) → m ≢ n → content_of U m ≡ content_of T m
  pub same_kids : (m : ℕ) → m ≢ n → m ≢ p → kids_of U m ≡ kids_of T m
  pub same_attributes : (m : ℕ) → m ≢ n → m ≢ p → attrs_of U m ≡ attrs_of T m
  -- the ways up
  pub way_up : above U n ≡ n ∷ above T p
  pub same_ways_up : (m : ℕ) → is_live T m ≡ true → above U m ≡ above T m
  -- a next node may come under the new one, and under each node above it
  pub stays_open : (m : ℕ) → mem m (n ∷ above T p) ≡ true → is_open U m ≡ true
  -- the text
  pub more_text : text_bytes U ≡ text_bytes T + length (value_in c)
  -- the document: what was read before, the new node's lines, and the ends of what is open
  pub read_on : (before : List Line) → lines T ≡ before ++ closing T p → lines U ≡ (before ++ first_lines c) ++ closing U n
  pub new_closing : closing U n ≡ last_lines c ++ closing T p
  pub same_closing : (m : ℕ) → is_live T m ≡ true → closing U m ≡ closing T m

-- whether a node of this content stands deeper than an element may
abbrev pub is_too_deep : Table → ℕ → Content → Bool
is_too_deep T parent root = false
is_too_deep T parent (element _ _) = nat_lt MAX_DEPTH (length (above T parent))
is_too_deep T parent (attribute _ _) = false
is_too_deep T parent (text _) = false
is_too_deep T parent (comment _) = false
is_too_deep T parent (instruction _ _) = false

abbrev pub has_too_many : Table → Bool
has_too_many T = nat_le MAX_LIVE_NODES (length (order T))

abbrev pub has_too_much_text : Table → Content → Bool
has_too_much_text T content = nat_lt MAX_LIVE_TEXT_BYTES (text_bytes T + length (value_in content))

-- the first limit that one node more would pass: of nodes, of depth, of text
abbrev pub passed_limit : Table → ℕ → Content → Option AppendError
passed_limit T parent content =
    if has_too_many T then Some TooManyNodes
    else if is_too_deep T parent content then Some TooDeep
    else if has_too_much_text T content then Some TooMuchText
    else None

-- the answers to a passed limit: that very error; want of memory comes only where none is passed
abbrev pub Refuses : Option AppendError → AppendError → Type 0
Refuses limit TooManyNodes = limit ≡ Some TooManyNodes
Refuses limit TooDeep = limit ≡ Some TooDeep
Refuses limit TooMuchText = limit ≡ Some TooMuchText
Refuses limit Memory = limit ≡ None
