-- A fragment of a document, and the node under which it is to come: what it breaks, and the tree that it is (Namespaces in XML 1.0).
use Rattle.std.specs.Prelude.{◌≡◌, ℕ, suc, pred, Bool, true, false, ◌||◌, nat_lt, ◌+◌, List, [], ◌∷◌, ◌++◌, length, map, sum_by, Option, None, Some, is_none, if◌then◌else◌}
use Rattle.std.specs.List.{flat_map, list_any}
use Rattle.std.specs.Option.{option_or}
use Rattle.pyx_core.specs.declared.event.Attr.{Attr}
use Rattle.pyx_core.specs.declared.event.Event.{Event}
use Rattle.pyx_core.specs.declared.event.Event.TheVariants as event
use Rattle.pyx_core.specs.declared.mode.Mode.TheVariants.{Fragment}
use Rattle.pyx_core.specs.Nesting.{IsEnd, Nest, place_after, start}
use Rattle.doc_tree.specs.limits.TheConstants.{MAX_DEPTH, MAX_LIVE_NODES}
use Rattle.doc_tree.specs.declared.refusal.EditRefusal.{EditRefusal}
use Rattle.doc_tree.specs.declared.refusal.EditRefusal.TheVariants as refusal
use Rattle.doc_tree.specs.Lines.{lines}
use Rattle.doc_tree.specs.Lists.{upto}
use Rattle.doc_tree.specs.Scope.{Decl, namespace_in, scope_at}
use Rattle.doc_tree.specs.Table.{Table, content_of, kids_of}
use Rattle.doc_tree.specs.Walks.{above, order}
use Rattle.name_scopes.specs.declared.fault.DocKind.{DocKind}
use Rattle.name_scopes.specs.declared.fault.DocKind.TheVariants as kind
use Rattle.name_scopes.specs.declared.refusal.PieceError.{PieceError}
use Rattle.name_scopes.specs.declared.refusal.PieceError.TheVariants.{Refused, Memory}
use Rattle.name_scopes.specs.Declarations.{declarations, plain_attrs}
use Rattle.name_scopes.specs.DocFaults.{declaring_fault, has_pair, in_scope, lacks_prefix, outer_scopes, same_expanded, same_qname, tag_nodes}
use Rattle.name_scopes.specs.QNames.{prefix_part}
use Rattle.name_scopes.specs.ScopedTree.{said_by, unscoped}
use Rattle.name_scopes.specs.Scoping.{ContentInScope}

-- the events are those of a fragment: one element with its content, one text, one comment or one processing instruction
pub record IsFragment (events : List Event) : Type 0 where
  pub nest : Nest Fragment start events
  pub end : IsEnd (place_after Fragment start events)

-- the first rule that the attributes of a start tag break whatever is in scope around it
abbrev pub own_tag_fault : List Attr → Option DocKind
own_tag_fault attrs = if has_pair same_qname attrs then Some kind.SameAttribute else declaring_fault attrs

abbrev pub own_fault : Event → Option DocKind
own_fault (event.Start name attrs) = own_tag_fault attrs
own_fault (event.End name) = None
own_fault (event.Chars text) = None
own_fault (event.Pi target body) = None
own_fault (event.Comment text) = None

-- the first such fault of the events
abbrev pub names_fault : List Event → Option DocKind
names_fault [] = None
names_fault (found ∷ events) = option_or (own_fault found) (names_fault events)

-- whether a test holds of some start tag among the events, by the declarations in scope there, its own among them; around the
-- events are these, the innermost first
abbrev pub some_tag : (List Decl → List ℕ → List Attr → Bool) → List (List Decl) → List Event → Bool
some_tag test scopes [] = false
some_tag test scopes (event.Start name attrs ∷ events) =
    test (in_scope (declarations attrs ∷ scopes)) name attrs || some_tag test (declarations attrs ∷ scopes) events
some_tag test scopes (event.End name ∷ events) = some_tag test (outer_scopes scopes) events
some_tag test scopes (event.Chars text ∷ events) = some_tag test scopes events
some_tag test scopes (event.Pi target body ∷ events) = some_tag test scopes events
some_tag test scopes (event.Comment text ∷ events) = some_tag test scopes events

-- the prefix of the element, or of an attribute that declares nothing, is not in scope
abbrev pub tag_lacks_prefix : List Decl → List ℕ → List Attr → Bool
tag_lacks_prefix scope name attrs = is_none (namespace_in scope (prefix_part name)) || list_any (lacks_prefix scope) (plain_attrs attrs)

-- two attributes have one expanded name (section 6.3)
abbrev pub tag_doubles : List Decl → List ℕ → List Attr → Bool
tag_doubles scope name attrs = has_pair (same_expanded scope) (plain_attrs attrs)

-- how many nodes an event brings
abbrev pub event_nodes : Event → ℕ
event_nodes (event.Start name attrs) = tag_nodes attrs
event_nodes (event.End name) = 0
event_nodes (event.Chars text) = 1
event_nodes (event.Pi target body) = 1
event_nodes (event.Comment text) = 1

-- the bytes of text that an event brings: the values of attributes that declare nothing, its text, or its data
abbrev pub plain_text : Event → ℕ
plain_text (event.Start name attrs) = sum_by (λ attr. length attr.value) (plain_attrs attrs)
plain_text (event.End name) = 0
plain_text (event.Chars text) = length text
plain_text (event.Pi target body) = length body
plain_text (event.Comment text) = length text

-- whether an element would have more ancestors than an element may, where the first has so many
abbrev pub is_too_deep : ℕ → List Event → Bool
is_too_deep depth [] = false
is_too_deep depth (event.Start name attrs ∷ events) = nat_lt MAX_DEPTH depth || is_too_deep (suc depth) events
is_too_deep depth (event.End name ∷ events) = is_too_deep (pred depth) events
is_too_deep depth (event.Chars text ∷ events) = is_too_deep depth events
is_too_deep depth (event.Pi target body ∷ events) = is_too_deep depth events
is_too_deep depth (event.Comment text ∷ events) = is_too_deep depth events

-- the first reason, in their order, for which the names and the nodes of a fragment keep it from coming under a node
abbrev pub piece_refusal : Table → ℕ → List Event → Option EditRefusal
piece_refusal T p events =
    if some_tag tag_lacks_prefix (scope_at T p ∷ []) events then Some refusal.NoPrefix
    else if some_tag tag_doubles (scope_at T p ∷ []) events then Some refusal.SameAttribute
    else if nat_lt MAX_LIVE_NODES (length (order T) + sum_by event_nodes events) then Some refusal.TooManyNodes
    else if is_too_deep (length (above T p)) events then Some refusal.TooDeep
    else None

-- whether an event is a start tag
abbrev pub is_start : Event → Bool
is_start (event.Start name attrs) = true
is_start (event.End name) = false
is_start (event.Chars text) = false
is_start (event.Pi target body) = false
is_start (event.Comment text) = false

-- the answers to a fragment that is refused: its first reason; the names of tags are judged with memory, and without tags want
-- of memory comes only where there is no reason
abbrev pub Refuses : List Event → Option EditRefusal → PieceError → Type 0
Refuses events reason (Refused found) = reason ≡ Some found
Refuses events reason Memory = list_any is_start events ≡ false → reason ≡ None

-- the nodes of a piece are in scope, where these declarations are in scope around it
abbrev pub PieceInScope : List Decl → Table → Type 0
PieceInScope around P = (m : ℕ) → ContentInScope (scope_at P m ++ around) (content_of P m)

-- the tree of a fragment: it says what the events say; its names are in the namespaces of the nearest declarations, its own or
-- those around it; its numbers are in document order, and no others were made; and its root has one kid
pub record ScopedPiece (around : List Decl) (events : List Event) (P : Table) : Type 0 where
  pub lines_are : map unscoped (lines P) ≡ flat_map said_by events
  pub in_scope : PieceInScope around P
  pub numbered : order P ≡ upto (length P)
  pub top : ℕ
  pub one : kids_of P 0 ≡ top ∷ []
