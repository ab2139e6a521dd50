-- A document without node numbers: items in their order, each with what it holds; and what is asked of them.
use Rattle.std.proofs.Common.{◌≡◌, ◌≢◌, ℕ, suc, ◌+◌, ◌≤◌, Bool, true, false, List, [], ◌∷◌, ◌++◌, length, map}
use Rattle.pyx_core.specs.declared.event.Attr.{Attr}
use Rattle.pyx_core.specs.declared.event.Event.{Event}
use Rattle.pyx_core.specs.declared.event.Event.TheVariants as event
use Rattle.pyx_core.specs.Nesting.{of_chars}
use Rattle.doc_tree.specs.limits.TheConstants.{MAX_DEPTH}
use Rattle.doc_tree.specs.Lines.{Line, starts, declares, has_attribute, ends, has_text, has_comment, has_instruction}
use Rattle.doc_tree.specs.Scope.{Decl}
use Rattle.doc_tree.specs.Table.{Name, expanded}
use Rattle.doc_tree.specs.QNames.{qname_of}
use Rattle.doc_write.specs.TreeText.{declaring_name}
use Rattle.name_scopes.specs.Scoping.{AttributeInScope, ElementInScope, InstructionInScope}

-- an attribute: its name and value
abbrev pub Pair : Type 0
Pair = Name × List ℕ

pub data Items : Type 0 where
  nothing : Items
  an_element : Name → List Decl → List Pair → Items → Items → Items
  a_text : List ℕ → Items → Items
  a_comment : List ℕ → Items → Items
  an_instruction : Name → List ℕ → Items → Items

abbrev pub pair_line : Pair → Line
pair_line a = has_attribute a.0 a.1

-- the lines of items
abbrev pub item_lines : Items → List Line
item_lines nothing = []
item_lines (an_element name decls attrs kids rest) =
    starts name ∷ (map declares decls ++ (map pair_line attrs ++ (item_lines kids ++ ends name ∷ item_lines rest)))
item_lines (a_text characters rest) = has_text characters ∷ item_lines rest
item_lines (a_comment characters rest) = has_comment characters ∷ item_lines rest
item_lines (an_instruction name body rest) = has_instruction name body ∷ item_lines rest

-- the attributes of a start tag
abbrev pub decl_attr : Decl → Attr
decl_attr decl = record { name = declaring_name decl.0; value = decl.1 }

abbrev pub pair_attr : Pair → Attr
pair_attr a = record { name = qname_of a.0; value = a.1 }

abbrev pub start_attrs : List Decl → List Pair → List Attr
start_attrs decls attrs = map decl_attr decls ++ map pair_attr attrs

-- the events of items
abbrev pub item_events : Items → List Event
item_events nothing = []
item_events (an_element name decls attrs kids rest) =
    event.Start (qname_of name) (start_attrs decls attrs) ∷ (item_events kids ++ event.End (qname_of name) ∷ item_events rest)
item_events (a_text characters rest) = event.Chars characters ∷ item_events rest
item_events (a_comment characters rest) = event.Comment characters ∷ item_events rest
item_events (an_instruction name body rest) = event.Pi name.local body ∷ item_events rest

-- how many nodes they have, attributes counted
abbrev pub item_nodes : Items → ℕ
item_nodes nothing = 0
item_nodes (an_element name decls attrs kids rest) = suc (length attrs) + (item_nodes kids + item_nodes rest)
item_nodes (a_text characters rest) = suc (item_nodes rest)
item_nodes (a_comment characters rest) = suc (item_nodes rest)
item_nodes (an_instruction name body rest) = suc (item_nodes rest)

-- how many elements and texts stand at their top
abbrev pub top_elements : Items → ℕ
top_elements nothing = 0
top_elements (an_element name decls attrs kids rest) = suc (top_elements rest)
top_elements (a_text characters rest) = top_elements rest
top_elements (a_comment characters rest) = top_elements rest
top_elements (an_instruction name body rest) = top_elements rest

abbrev pub top_texts : Items → ℕ
top_texts nothing = 0
top_texts (an_element name decls attrs kids rest) = top_texts rest
top_texts (a_text characters rest) = suc (top_texts rest)
top_texts (a_comment characters rest) = top_texts rest
top_texts (an_instruction name body rest) = top_texts rest

-- attributes in scope, of which no two have one expanded name
abbrev pub PairsFit : List Decl → List Pair → Type 0
PairsFit scope [] = Unit {0}
PairsFit scope (a ∷ attrs) = AttributeInScope scope a.0 a.1 × PairsFit scope attrs

abbrev pub Differs : Name → List Pair → Type 0
Differs name [] = Unit {0}
Differs name (a ∷ attrs) = (expanded name ≢ expanded a.0) × Differs name attrs

abbrev pub AllDiffer : List Pair → Type 0
AllDiffer [] = Unit {0}
AllDiffer (a ∷ attrs) = Differs a.0 attrs × AllDiffer attrs

-- a start tag, where these declarations are in scope, its own among them
pub record TagFits (scope : List Decl) (name : Name) (decls : List Decl) (attrs : List Pair) : Type 0 where
  pub element : ElementInScope scope name decls
  pub attributes : PairsFit scope attrs
  pub differ : AllDiffer attrs

-- items that may stand where these declarations are in scope, so many elements are open, and a text stands in front or
-- none does
abbrev pub Fit : List Decl → ℕ → Bool → Items → Type 0
Fit scope depth behind nothing = Unit {0}
Fit scope depth behind (an_element name decls attrs kids rest) =
    TagFits (decls ++ scope) name decls attrs × (suc depth ≤ MAX_DEPTH) × Fit (decls ++ scope) (suc depth) false kids
    × Fit scope depth false rest
Fit scope depth behind (a_text characters rest) =
    (behind ≡ false) × (characters ≢ []) × (of_chars characters ≡ true) × Fit scope depth true rest
Fit scope depth behind (a_comment characters rest) = (of_chars characters ≡ true) × Fit scope depth false rest
Fit scope depth behind (an_instruction name body rest) = InstructionInScope name body × Fit scope depth false rest
