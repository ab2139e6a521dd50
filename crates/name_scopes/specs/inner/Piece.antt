-- What the passes over a fragment know of the start tags that are open, and what they test.
use Rattle.std.specs.Prelude.{◌≡◌, ◌≢◌, ℕ, suc, ◌+◌, ◌≤◌, Bool, true, false, List, [], ◌∷◌, ◌++◌, length, map, sum_by, Option, None, Some, if◌then◌else◌}
use Rattle.pyx_core.specs.declared.event.Attr.{Attr}
use Rattle.pyx_core.specs.declared.event.Event.{Event}
use Rattle.pyx_core.specs.declared.event.Event.TheVariants as event
use Rattle.pyx_core.specs.declared.mode.Mode.TheVariants.{Document}
use Rattle.pyx_core.specs.Nesting.{Place, Fits}
use Rattle.doc_tree.specs.declared.refusal.EditRefusal.{EditRefusal}
use Rattle.doc_tree.specs.declared.refusal.EditRefusal.TheVariants as refusal
use Rattle.doc_tree.specs.limits.TheConstants.{MAX_LIVE_NODES, MAX_LIVE_TEXT_BYTES}
use Rattle.doc_tree.specs.Scope.{Decl}
use Rattle.doc_tree.specs.Table.{Table, kids_of}
use Rattle.doc_tree.specs.Walks.{order, text_bytes}
use Rattle.name_scopes.specs.declared.build.Loader.{Loader}
use Rattle.name_scopes.specs.declared.open_tags.OpenTags.{OpenTags}
use Rattle.name_scopes.specs.Declarations.{declarations}
use Rattle.name_scopes.specs.DocFaults.{Standing, in_scope, outer_scopes, tag_fault}
pub use Rattle.name_scopes.specs.Fragments.{is_start}
use Rattle.name_scopes.specs.Fragments.{IsFragment, ScopedPiece, event_nodes, is_too_deep, names_fault, plain_text, some_tag, tag_doubles, tag_lacks_prefix}
use Rattle.name_scopes.specs.inner.Build.{Builds, IsLeaf}
use Rattle.name_scopes.specs.inner.Scope.{newest_first}

-- what each open start tag declares, the innermost first, and last what stands around the fragment
pub record Stands (scopes : List (List Decl)) (tags : OpenTags) : Type 0 where
  pub scope_is : tags.scope ≡ in_scope scopes
  pub counts_are : newest_first tags.counts.items ≡ map length scopes

-- the same after an event
abbrev pub scopes_after : List (List Decl) → Event → List (List Decl)
scopes_after scopes (event.Start name attrs) = declarations attrs ∷ scopes
scopes_after scopes (event.End name) = outer_scopes scopes
scopes_after scopes (event.Chars text) = scopes
scopes_after scopes (event.Pi target body) = scopes
scopes_after scopes (event.Comment text) = scopes

-- whether an event is a start tag of which the test holds, by the declarations in scope, its own among them
abbrev pub holds_of_tag : (List Decl → List ℕ → List Attr → Bool) → List Decl → Event → Bool
holds_of_tag test scope (event.Start name attrs) = test scope name attrs
holds_of_tag test scope (event.End name) = false
holds_of_tag test scope (event.Chars text) = false
holds_of_tag test scope (event.Pi target body) = false
holds_of_tag test scope (event.Comment text) = false

-- the first reason among those of the names
abbrev pub names_refusal : List Decl → List Event → Option EditRefusal
names_refusal around events =
    if some_tag tag_lacks_prefix (around ∷ []) events then Some refusal.NoPrefix
    else if some_tag tag_doubles (around ∷ []) events then Some refusal.SameAttribute
    else None

-- whether the events are too deep, where one of them leads to this depth or is too deep itself
abbrev pub deep_from : Option ℕ → List Event → Bool
deep_from None events = true
deep_from (Some depth) events = is_too_deep depth events

-- what a start tag may not lack; its own declarations are in scope, and these round them
abbrev pub NamesFit : List Decl → Event → Type 0
NamesFit scope (event.Start name attrs) = tag_fault (declarations attrs ++ scope) name attrs ≡ None
NamesFit scope (event.End name) = Unit {0}
NamesFit scope (event.Chars text) = Unit {0}
NamesFit scope (event.Pi target body) = Unit {0}
NamesFit scope (event.Comment text) = Unit {0}

-- the loader has built the tree of the events of a fragment taken so far, where these declarations are in scope around it
pub record PieceLoads (around : List Decl) (taken : List Event) (place : Place) (standing : Standing) (loader : Loader) : Type 0 where
  pub builds : Builds around taken place standing loader.tree.nodes loader.place
  pub scope_is : loader.scope ≡ in_scope standing.scopes ++ around
  pub text : text_bytes loader.tree.nodes ≡ sum_by plain_text taken
  pub top : length (kids_of loader.tree.nodes 0) ≡ (if place.begun then 1 else 0)

-- the event may come: only a start tag stands at the top, and nothing refuses the event
pub record PieceComes (around : List Decl) (taken : List Event) (place : Place) (standing : Standing) (event : Event) : Type 0 where
  pub fits : Fits Document place event
  pub inside : IsLeaf event → place.opened ≢ []
  pub names : NamesFit (in_scope standing.scopes ++ around) event
  pub little : sum_by plain_text taken + plain_text event ≤ MAX_LIVE_TEXT_BYTES
  pub room : standing.nodes + event_nodes event ≤ MAX_LIVE_NODES
  pub shallow : is_too_deep (suc (length standing.scopes)) (event ∷ []) ≡ false

abbrev pub PieceIsReady : Loader → Event → Type 0
PieceIsReady loader event =
    (around : List Decl) × ((taken : List Event) × ((place : Place) × ((standing : Standing) ×
    (PieceLoads around taken place standing loader × PieceComes around taken place standing event))))

-- a fragment that nothing refuses, where these declarations are in scope around it
pub record IsAcceptable (around : List Decl) (events : List Event) : Type 0 where
  pub fragment : IsFragment events
  pub names : names_fault events ≡ None
  pub lacks : some_tag tag_lacks_prefix (around ∷ []) events ≡ false
  pub doubles : some_tag tag_doubles (around ∷ []) events ≡ false
  pub room : 1 + sum_by event_nodes events ≤ MAX_LIVE_NODES
  pub shallow : is_too_deep 1 events ≡ false
  pub little : sum_by plain_text events ≤ MAX_LIVE_TEXT_BYTES

-- the tree of a fragment, of so many nodes and so many bytes of text
pub record IsPiece (around : List Decl) (events : List Event) (P : Table) : Type 0 where
  pub scoped : ScopedPiece around events P
  pub nodes : length (order P) ≡ 1 + sum_by event_nodes events
  pub text : text_bytes P ≡ sum_by plain_text events

-- whether the first of the events is a start tag
abbrev pub begins_element : List Event → Bool
begins_element [] = false
begins_element (first ∷ events) = is_start first
