-- A tree under way: what it says so far, which elements are open, and where the next node comes.
use Rattle.std.specs.Prelude.{◌≡◌, ◌≢◌, ℕ, ◌+◌, ◌≤◌, ◌<◌, nat_lt, Bool, true, false, is_none, List, [], ◌∷◌, ◌++◌, length, map, Option, None, Some, Result, Ok, Err, count_by, sum_by, unwrap_or, if◌then◌else◌}
use Rattle.std.specs.List.{flat_map}
use Rattle.pyx_core.specs.declared.event.Attr.{Attr}
use Rattle.pyx_core.specs.declared.event.Event.{Event}
use Rattle.pyx_core.specs.declared.event.Event.TheVariants as event
use Rattle.pyx_core.specs.declared.mode.Mode.TheVariants.{Document}
use Rattle.pyx_core.specs.Nesting.{Place, Fits, after}
use Rattle.doc_tree.specs.limits.TheConstants.{MAX_DEPTH, MAX_LIVE_NODES, MAX_LIVE_TEXT_BYTES}
use Rattle.doc_tree.specs.Lists.{upto}
use Rattle.doc_tree.specs.Table.{Table, Name, Content, root, root_alone, element, text, comment, instruction, AllLive, numbered, content_of, kids_of, attrs_of, kind_of, parent_of, decls_of}
use Rattle.doc_tree.specs.Walks.{above, ancestors, is_open, order, text_bytes}
use Rattle.doc_tree.specs.Lines.{Line, starts, declares, has_attribute, lines, closing}
use Rattle.doc_tree.specs.Growth.{ends_in_text}
use Rattle.doc_tree.specs.Kinds.{holds_kids, is_element, is_text}
use Rattle.doc_tree.specs.Scope.{Decl, namespace_in, scope_at}
use Rattle.name_scopes.specs.declared.build.Loader.{Loader}
use Rattle.name_scopes.specs.declared.fault.DocKind.{DocKind}
use Rattle.name_scopes.specs.declared.fault.DocKind.TheVariants.{TooManyNodes, TooDeep}
use Rattle.name_scopes.specs.declared.fault.EventError.{EventError}
use Rattle.name_scopes.specs.declared.fault.EventError.TheVariants.{Kind, Memory}
use Rattle.name_scopes.specs.QNames.{as_written, name_in_namespace, prefix_part, unprefixed}
use Rattle.name_scopes.specs.Declarations.{declarations, plain_attrs}
use Rattle.name_scopes.specs.Fragments.{PieceInScope}
use Rattle.name_scopes.specs.Scoping.{ContentInScope, attribute_namespace}
use Rattle.name_scopes.specs.ScopedTree.{written, said_by, unscoped}
use Rattle.name_scopes.specs.DocFaults.{Standing, tag_nodes, in_scope, event_fault, moved}

-- the bytes of text that an event brings at most: its values, text or data
abbrev pub value_bytes : Attr → ℕ
value_bytes attr = length attr.value

abbrev pub event_text : Event → ℕ
event_text (event.Start name attrs) = sum_by value_bytes attrs
event_text (event.End name) = 0
event_text (event.Chars characters) = length characters
event_text (event.Pi target body) = length body
event_text (event.Comment characters) = length characters

-- the name of an element, and that of an attribute, by the declarations in scope
abbrev pub element_name : List Decl → List ℕ → Name
element_name scope qname = name_in_namespace qname (unwrap_or (namespace_in scope (prefix_part qname)) [])

abbrev pub attribute_name : List Decl → List ℕ → Name
attribute_name scope qname = name_in_namespace qname (unwrap_or (attribute_namespace scope (prefix_part qname)) [])

-- the number is that of the element's name, whose prefix is in scope
pub record IsNamed (names : List Name) (scope : List Decl) (qname : List ℕ) (id : ℕ) : Type 0 where
  pub known : is_none (namespace_in scope (prefix_part qname)) ≡ false
  pub below : id < length names
  pub named : numbered names id ≡ element_name scope qname

-- the line of an attribute, its name in its namespace
abbrev pub scoped_line : List Decl → Attr → Line
scoped_line scope attr = has_attribute (attribute_name scope attr.name) attr.value

-- what the node of an event holds that is no element
abbrev pub leaf_of : Event → Content
leaf_of (event.Start name attrs) = root
leaf_of (event.End name) = root
leaf_of (event.Chars characters) = text characters
leaf_of (event.Pi target body) = instruction (unprefixed target) body
leaf_of (event.Comment characters) = comment characters

-- a node is in scope, where these declarations are in scope around the tree
abbrev pub NodeAround : List Decl → Table → ℕ → Type 0
NodeAround around T n = ContentInScope (scope_at T n ++ around) (content_of T n)

-- whether an event is no tag
abbrev pub IsLeaf : Event → Type 0
IsLeaf (event.Start name attrs) = ⊥
IsLeaf (event.End name) = ⊥
IsLeaf (event.Chars characters) = Unit {0}
IsLeaf (event.Pi target body) = Unit {0}
IsLeaf (event.Comment characters) = Unit {0}

-- a node may be appended here
pub record Receives (T : Table) (n : ℕ) : Type 0 where
  pub holder : holds_kids (kind_of T n) ≡ true
  pub last : is_open T n ≡ true
  pub all_live : AllLive T

-- the node is the root
pub record StandsAtRoot (T : Table) (n : ℕ) : Type 0 where
  pub number : n ≡ 0
  pub content : content_of T n ≡ Some root
  pub no_parent : parent_of T n ≡ None

-- the node is an element with this QName and these declarations, and the last kid of its parent
pub record IsInnermost (T : Table) (qname : List ℕ) (decls : List Decl) (parent n : ℕ) : Type 0 where
  pub name : Name
  pub spelled : as_written name ≡ written qname
  pub content : content_of T n ≡ Some (element name decls)
  pub under : parent_of T n ≡ Some parent
  pub elder : List ℕ
  pub last : kids_of T parent ≡ elder ++ n ∷ []

-- the elements from the node upwards have these QNames and these declarations, the innermost first
abbrev pub AreOpen : Table → List (List ℕ) → List (List Decl) → ℕ → Type 0
AreOpen T [] [] n = StandsAtRoot T n
AreOpen T [] (decls ∷ scopes) n = ⊥
AreOpen T (name ∷ names) [] n = ⊥
AreOpen T (name ∷ names) (decls ∷ scopes) n = (parent : ℕ) × (IsInnermost T name decls parent n × AreOpen T names scopes parent)

-- the root has an element kid if the document's element has begun, and no text kid
pub record Tops (begun : Bool) (T : Table) : Type 0 where
  pub elements : count_by (λ k. is_element (kind_of T k)) (kids_of T 0) ≡ (if begun then 1 else 0)
  pub no_text : count_by (λ k. is_text (kind_of T k)) (kids_of T 0) ≡ 0

-- the tree says these lines and then the ends of the open elements, of which the node is the innermost; it has at most
-- so many bytes of text
pub record Says (told : List Line) (names : List (List ℕ)) (scopes : List (List Decl)) (begun : Bool) (text : ℕ) (T : Table) (n : ℕ) : Type 0 where
  pub lines_are : lines T ≡ told ++ closing T n
  pub all_live : AllLive T
  pub last : is_open T n ≡ true
  pub way : AreOpen T names scopes n
  pub top : Tops begun T
  pub numbered_so : order T ≡ upto (length T)
  pub little : text_bytes T ≤ text

-- the tree is that of the events taken so far, which lead to this place, as things stand there, where these declarations are
-- in scope around it
pub record Builds (around : List Decl) (taken : List Event) (place : Place) (standing : Standing) (T : Table) (n : ℕ) : Type 0 where
  pub told : List Line
  pub tells : Says told place.opened standing.scopes place.begun (sum_by event_text taken) T n
  pub told_is : map unscoped told ≡ flat_map said_by taken
  pub inside : place.opened ≢ [] → place.begun ≡ true
  pub behind_is : ends_in_text T (kids_of T n) ≡ place.after_chars
  pub scoped : PieceInScope around T
  pub count : length (order T) ≡ standing.nodes

-- the element declares all of this, after it declared nothing and held nothing; the others stay in scope
pub record DeclaresAll (T U : Table) (p : ℕ) (decls : List Decl) : Type 0 where
  pub tells : (told : List Line) (name : List ℕ) (names : List (List ℕ)) (scopes : List (List Decl)) (begun : Bool) (text : ℕ) →
      Says told (name ∷ names) ([] ∷ scopes) begun text T p → Says (told ++ map declares decls) (name ∷ names) (decls ∷ scopes) begun text U p
  pub others : (around : List Decl) (m : ℕ) → m ≢ p → NodeAround around T m → NodeAround around U m
  pub content : (name : Name) → content_of T p ≡ Some (element name []) → content_of U p ≡ Some (element name decls)
  pub decls_are : decls_of U p ≡ decls
  pub upper : flat_map (decls_of U) (ancestors U p) ≡ flat_map (decls_of T) (ancestors T p)
  pub same_open : is_open U p ≡ is_open T p
  pub all_live : AllLive T → AllLive U
  pub no_kid : kids_of U p ≡ []
  pub no_attribute : attrs_of U p ≡ []
  pub same_order : order U ≡ order T
  pub same_text : text_bytes U ≡ text_bytes T
  pub top_kids : kids_of U 0 ≡ kids_of T 0

-- the element has these attributes, after it had none, and all stay in scope, whatever is in scope around the tree
pub record AttributesAll (T U : Table) (p : ℕ) (scope : List Decl) (attrs : List Attr) : Type 0 where
  pub tells : (told : List Line) (names : List (List ℕ)) (scopes : List (List Decl)) (begun : Bool) (text : ℕ) →
      Says told names scopes begun text T p → Says (told ++ map (scoped_line scope) (plain_attrs attrs)) names scopes begun (text + sum_by value_bytes attrs) U p
  pub scoped : (around : List Decl) → scope ≡ scope_at T p ++ around → PieceInScope around T → PieceInScope around U
  pub no_kid : kids_of U p ≡ []
  pub counted : length (order U) ≡ length (order T) + length (plain_attrs attrs)
  pub more_text : text_bytes U ≡ text_bytes T + sum_by value_bytes (plain_attrs attrs)
  pub top_kids : kids_of U 0 ≡ kids_of T 0

-- the lines of a start tag, its names in their namespaces
abbrev pub start_lines : List Decl → List ℕ → List Attr → List Line
start_lines scope name attrs =
    starts (element_name scope name) ∷ (map declares (declarations attrs) ++ map (scoped_line scope) (plain_attrs attrs))

-- an element has begun under p, the first one where no element was there
pub record Begins (T U : Table) (p n : ℕ) (scope : List Decl) (name : List ℕ) (attrs : List Attr) : Type 0 where
  pub tells : (told : List Line) (names : List (List ℕ)) (scopes : List (List Decl)) (begun : Bool) (text : ℕ) → (begun ≡ true → p ≢ 0) → (begun ≡ false → p ≡ 0) →
      Says told names scopes begun text T p → Says (told ++ start_lines scope name attrs) (name ∷ names) (declarations attrs ∷ scopes) true (text + sum_by value_bytes attrs) U n
  pub scoped : (around : List Decl) → scope ≡ declarations attrs ++ (scope_at T p ++ around) → PieceInScope around T → PieceInScope around U
  pub no_kid : kids_of U n ≡ []
  pub counted : length (order U) ≡ length (order T) + tag_nodes attrs
  pub more_text : text_bytes U ≡ text_bytes T + sum_by value_bytes (plain_attrs attrs)
  pub top_kids : p ≢ 0 → kids_of U 0 ≡ kids_of T 0
  pub first_kid : p ≡ 0 → kids_of U 0 ≡ kids_of T 0 ++ n ∷ []

-- why an element wasn't begun: it would stand too deep; want of memory comes at any time
abbrev pub IsTooDeep : Table → ℕ → EventError → Type 0
IsTooDeep T p (Kind what) = (what ≡ TooDeep) × (nat_lt MAX_DEPTH (length (above T p)) ≡ true)
IsTooDeep T p Memory = Unit {0}

-- the limit of nodes, for a start tag
abbrev pub room_fault : ℕ → Option DocKind
room_fault nodes = if nat_lt MAX_LIVE_NODES nodes then Some TooManyNodes else None

-- the loader has built the tree of the events taken so far
pub record Loads (taken : List Event) (place : Place) (standing : Standing) (loader : Loader) : Type 0 where
  pub builds : Builds [] taken place standing loader.tree.nodes loader.place
  pub scope_is : loader.scope ≡ in_scope standing.scopes

-- the loader has built nothing yet
pub record IsNew (loader : Loader) : Type 0 where
  pub tree_is : loader.tree ≡ root_alone
  pub place_is : loader.place ≡ 0
  pub scope_is : loader.scope ≡ []

-- the event may come
pub record Comes (taken : List Event) (place : Place) (event : Event) : Type 0 where
  pub fits : Fits Document place event
  pub little : sum_by event_text taken + event_text event ≤ MAX_LIVE_TEXT_BYTES

abbrev pub IsReady : Loader → Event → Type 0
IsReady loader event = (taken : List Event) × ((place : Place) × ((standing : Standing) × (Loads taken place standing loader × Comes taken place event)))

-- an event was taken, or it is faulty; want of memory comes at any time
abbrev pub TakesEvent : List Event → Place → Standing → Event → Loader → Result (Unit {0}) EventError → Type 0
TakesEvent taken place standing event loader (Ok done) =
    (event_fault standing event ≡ None) × Loads (taken ++ event ∷ []) (after Document place event) (moved standing event) loader
TakesEvent taken place standing event loader (Err (Kind what)) = event_fault standing event ≡ Some what
TakesEvent taken place standing event loader (Err Memory) = Unit {0}
