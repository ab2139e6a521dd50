-- Why an edit of a tree is refused: of the reasons that hold the first in their order.
use Rattle.std.specs.Prelude.{◌≡◌, ◌≢◌, ℕ, suc, ◌+◌, ◌-◌, ◌==◌, Bool, true, false, not, ◌&&◌, ◌||◌, nat_lt, List, length, take, drop, Option, None, Some, is_none, slice_index_or, if◌then◌else◌}
use Rattle.std.specs.List.{list_any}
use Rattle.std.specs.Option.{option_or}
use Rattle.std.specs.Str.{bytes_eq}
use Rattle.sch_base.specs.Lists.{is_nil}
use Rattle.doc_table.specs.declared.kind.Kind.{Kind}
use Rattle.doc_table.specs.declared.kind.Kind.TheVariants.{Root, Element, Attribute, Text, Comment, Pi}
use Rattle.doc_table.specs.declared.limits.TheConstants.{MAX_DEPTH, MAX_LIVE_NODES, MAX_LIVE_TEXT_BYTES, MAX_NODE_NUMBERS}
use Rattle.doc_table.specs.Growth.{ends_in_text}
use Rattle.doc_table.specs.Kinds.{can_be_kid, holds_kids, is_element, is_text}
use Rattle.doc_table.specs.Table.{Contents, Table, is_root, kids_above, kids_of, kind_of, parent_of, value_of}
use Rattle.doc_table.specs.Walks.{above, ancestors, order, text_bytes}
use Rattle.doc_edits.specs.Changes.{meeting, nodes_in}
use Rattle.doc_tree.specs.declared.refusal.EditRefusal.{EditRefusal}
use Rattle.doc_tree.specs.declared.refusal.EditRefusal.TheVariants.{WrongKind, NotInRange, RootElement, TextBeside, EmptyText, NoPrefix, SameAttribute, XmlnsName, NoAttribute, TooManyNodes, TooDeep, TooMuchText, IdsSpent, TooManyPairs}
use Rattle.doc_tree.specs.declared.refusal.EditError.{EditError}
use Rattle.doc_tree.specs.declared.refusal.EditError.TheVariants.{Refused, Memory}
use Rattle.doc_tree.specs.NameTests.{attribute_meant}
use Rattle.doc_tree.specs.Scope.{attribute_namespace, scope_at, xmlns_prefix}

-- the answers to a reason: that very one; want of memory comes only where there is none
abbrev pub RefusesFor : Option EditRefusal → EditError → Type 0
RefusesFor reason (Refused found) = reason ≡ Some found
RefusesFor reason Memory = reason ≡ None

-- the answers where no memory is wanted
abbrev pub RefusesOnlyFor : Option EditRefusal → EditError → Type 0
RefusesOnlyFor reason (Refused found) = reason ≡ Some found
RefusesOnlyFor reason Memory = ⊥

-- whether a kind is one whose text an edit may set: of a text, a comment or a processing instruction
abbrev pub has_own_text : Option Kind → Bool
has_own_text None = false
has_own_text (Some Root) = false
has_own_text (Some Element) = false
has_own_text (Some Attribute) = false
has_own_text (Some Text) = true
has_own_text (Some Comment) = true
has_own_text (Some Pi) = true

-- a node says another text
abbrev pub text_refusal : Table → ℕ → List ℕ → Option EditRefusal
text_refusal T n new =
    if not (has_own_text (kind_of T n)) then Some WrongKind
    else if is_text (kind_of T n) && is_nil new then Some EmptyText
    else if nat_lt (MAX_LIVE_TEXT_BYTES + length (value_of T n)) (text_bytes T + length new) then Some TooMuchText
    else None

-- a node is deleted: not the root, and not the document element
abbrev pub deletion_refusal : Table → ℕ → Option EditRefusal
deletion_refusal T n =
    if not (can_be_kid (kind_of T n)) then Some WrongKind
    else if is_element (kind_of T n) && is_root (parent_of T n) then Some RootElement
    else None

-- the answers to a deletion: want of memory comes only where two texts meet
abbrev pub RefusesDeletion : Table → ℕ → EditError → Type 0
RefusesDeletion T n (Refused found) = deletion_refusal T n ≡ Some found
RefusesDeletion T n Memory = meeting T n (kids_above T (parent_of T n)) ≢ None

-- whether a text stands just before or just behind a place among kids
abbrev pub is_beside_text : Table → ℕ → List ℕ → Bool
is_beside_text T before kids = ends_in_text T (take before kids) || list_any (λ k. is_text (kind_of T k)) (take 1 (drop before kids))

-- a node of a kind comes under a node as the kid with a number, counted from 1
abbrev pub place_refusal : Table → ℕ → ℕ → Option Kind → Option EditRefusal
place_refusal T p at kind =
    if not (holds_kids (kind_of T p)) then Some WrongKind
    else if nat_lt (length (kids_of T p)) (at - 1) then Some NotInRange
    else if (p == 0) && (is_element kind || is_text kind) then Some RootElement
    else if is_text kind && is_beside_text T (at - 1) (kids_of T p) then Some TextBeside
    else None

-- the one kid of a piece's root
abbrev pub top_of : Table → ℕ
top_of P = slice_index_or (kids_of P 0) 0 0

-- an element of a piece would stand deeper under a node than an element may
abbrev pub is_too_deep_at : Table → ℕ → Table → ℕ → Bool
is_too_deep_at T p P m = is_element (kind_of P m) && nat_lt (MAX_DEPTH + 1) (length (above T p) + length (ancestors P m))

-- so many nodes more would live than may
abbrev pub room_refusal : Contents → ℕ → Table → Option EditRefusal
room_refusal tree p P =
    if nat_lt MAX_LIVE_NODES (length (order tree.nodes) + length (nodes_in P)) then Some TooManyNodes
    else if list_any (is_too_deep_at tree.nodes p P) (order P) then Some TooDeep
    else if nat_lt MAX_LIVE_TEXT_BYTES (text_bytes tree.nodes + text_bytes P) then Some TooMuchText
    else if nat_lt MAX_NODE_NUMBERS (length tree.nodes + length (nodes_in P)) then Some IdsSpent
    else if nat_lt tree.pair_cap (length (order tree.nodes) + length (nodes_in P)) then Some TooManyPairs
    else None

-- a piece comes under a node
abbrev pub insertion_refusal : Contents → ℕ → ℕ → Table → Option EditRefusal
insertion_refusal tree p at P = option_or (place_refusal tree.nodes p at (kind_of P (top_of P))) (room_refusal tree p P)

-- the name is that of a declaration (Namespaces in XML 1.0, section 3)
abbrev pub declares_namespace : List ℕ → List ℕ → Bool
declares_namespace prefix local = bytes_eq prefix xmlns_prefix || (is_nil prefix && bytes_eq local xmlns_prefix)

-- a prefix is not in scope, `xmlns` apart
abbrev pub is_unbound : Table → ℕ → List ℕ → Bool
is_unbound T n prefix = not (bytes_eq prefix xmlns_prefix) && is_none (attribute_namespace (scope_at T n) prefix)

-- an attribute of a name is set or unset
abbrev pub name_refusal : Table → ℕ → List ℕ → List ℕ → Option EditRefusal
name_refusal T n prefix local =
    if not (is_element (kind_of T n)) then Some WrongKind
    else if is_unbound T n prefix then Some NoPrefix
    else if declares_namespace prefix local then Some XmlnsName
    else None

-- an attribute gets a value, or comes with it
abbrev pub value_refusal : Contents → Option ℕ → List ℕ → Option EditRefusal
value_refusal tree (Some a) value =
    if nat_lt (MAX_LIVE_TEXT_BYTES + length (value_of tree.nodes a)) (text_bytes tree.nodes + length value) then Some TooMuchText else None
value_refusal tree None value =
    if nat_lt MAX_LIVE_NODES (suc (length (order tree.nodes))) then Some TooManyNodes
    else if nat_lt MAX_LIVE_TEXT_BYTES (text_bytes tree.nodes + length value) then Some TooMuchText
    else if nat_lt MAX_NODE_NUMBERS (suc (length tree.nodes)) then Some IdsSpent
    else if nat_lt tree.pair_cap (suc (length (order tree.nodes))) then Some TooManyPairs
    else None

abbrev pub setting_refusal : Contents → ℕ → List ℕ → List ℕ → List ℕ → Option EditRefusal
setting_refusal tree n prefix local value =
    option_or (name_refusal tree.nodes n prefix local) (value_refusal tree (attribute_meant tree.nodes n prefix local) value)

-- an element loses an attribute
abbrev pub absence_refusal : Option ℕ → Option EditRefusal
absence_refusal None = Some NoAttribute
absence_refusal (Some a) = None

abbrev pub unsetting_refusal : Table → ℕ → List ℕ → List ℕ → Option EditRefusal
unsetting_refusal T n prefix local =
    option_or (name_refusal T n prefix local) (absence_refusal (attribute_meant T n prefix local))

-- an element gets another name: it may be `xmlns`, and only that prefix is for declarations
abbrev pub renaming_refusal : Table → ℕ → List ℕ → Option EditRefusal
renaming_refusal T n prefix =
    if not (is_element (kind_of T n)) then Some WrongKind
    else if is_unbound T n prefix then Some NoPrefix
    else if bytes_eq prefix xmlns_prefix then Some XmlnsName
    else None

-- two nodes were found, and not one
abbrev pub are_two : Option ℕ → Option ℕ → Bool
are_two None other = false
are_two (Some a) None = false
are_two (Some a) (Some b) = not (a == b)

-- an attribute with one name gets another, which no other attribute of the element has
abbrev pub name_pair_refusal : Table → ℕ → List ℕ → List ℕ → List ℕ → List ℕ → Option EditRefusal
name_pair_refusal T n old_prefix old_local prefix local =
    if not (is_element (kind_of T n)) then Some WrongKind
    else if is_unbound T n old_prefix || is_unbound T n prefix then Some NoPrefix
    else if are_two (attribute_meant T n old_prefix old_local) (attribute_meant T n prefix local) then Some SameAttribute
    else if declares_namespace old_prefix old_local || declares_namespace prefix local then Some XmlnsName
    else None

-- and it is there
abbrev pub attribute_renaming_refusal : Table → ℕ → List ℕ → List ℕ → List ℕ → List ℕ → Option EditRefusal
attribute_renaming_refusal T n old_prefix old_local prefix local =
    option_or (name_pair_refusal T n old_prefix old_local prefix local) (absence_refusal (attribute_meant T n old_prefix old_local))
