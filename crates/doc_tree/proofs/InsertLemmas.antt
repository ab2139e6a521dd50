-- A piece for which nothing speaks against its place may come there, and the document stays one.
use Rattle.std.proofs.Common.{◌≡◌, ℕ, ◌+◌, ◌-◌, ◌≤◌, true, false, not, ◌&&◌, ◌||◌, List, [], ◌∷◌, ◌++◌, length, take, drop, Option, None, Some, refl, sym, ap, ap₂, ◌∙◌, subst, true≢false, arith, ◌==◌, eq-eqb, ltb-false}
use Rattle.std.specs.List.{flat_map, list_any}
use Rattle.std.specs.Option.{option_or}
use Rattle.std.specs.Prelude.{nat_lt, slice_index_or}
use Rattle.doc_table.specs.declared.kind.Kind.{Kind}
use Rattle.doc_table.specs.declared.kind.Kind.TheVariants.{Root, Element}
use Rattle.doc_table.specs.declared.limits.TheConstants.{MAX_DEPTH, MAX_LIVE_NODES, MAX_LIVE_TEXT_BYTES, MAX_NODE_NUMBERS}
use Rattle.doc_table.specs.Growth.{ends_in_text}
use Rattle.doc_table.specs.Kinds.{can_be_kid, holds_kids, is_document, is_element, is_text}
use Rattle.doc_table.specs.Laws.{Ordered, WellFormed}
use Rattle.doc_table.specs.Lists.{mem}
use Rattle.doc_table.specs.Table.{Contents, Table, attrs_of, kids_of, kind_of}
use Rattle.doc_table.specs.Walks.{above, ancestors, below, order, text_bytes}
use Rattle.doc_table.proofs.Forests.{formed-of}
use Rattle.doc_table.proofs.TreeLaws.{ordered}
use Rattle.doc_edits.specs.Changes.{inserted, nodes_in}
use Rattle.doc_edits.specs.Documents.{EditsKeepDocuments}
use Rattle.doc_edits.specs.Fitting.{MayTake}
use Rattle.doc_table.proofs.ListLemmas.{mem-head}
use Rattle.doc_tree.specs.declared.refusal.EditRefusal.{EditRefusal}
use Rattle.doc_tree.specs.declared.refusal.EditRefusal.TheVariants.{WrongKind, NotInRange, RootElement, TextBeside, TooManyNodes, TooDeep, TooMuchText, IdsSpent, TooManyPairs}
use Rattle.doc_tree.specs.Refusals.{insertion_refusal, is_beside_text, is_too_deep_at, place_refusal, room_refusal, top_of}
use Rattle.doc_tree.proofs.RefusalLemmas.{and-false, element-live, none-of-five, none-of-four, not-true, or-false, or-none, some-of}

root-element : Some Root ≡ Some Element → ⊥
root-element h = true≢false (ap is_element (sym h))

-- the root has no attributes
root-attributes : (P : Table) → WellFormed P → (ats : List ℕ) → attrs_of P 0 ≡ ats → ats ≡ []
root-attributes P formed [] is = refl
root-attributes P formed (a ∷ ats) is =
    absurd (root-element (sym formed.root_kind ∙ formed.owner_kind 0 a (ap (mem a) is ∙ mem-head a ats)))

-- all nodes of a piece but its root
pub nodes-brought : (P : Table) → WellFormed P → Ordered P → length (order P) ≡ 1 + length (nodes_in P)
nodes-brought P formed ord =
    let whole : order P ≡ 0 ∷ nodes_in P =
    ord.below_at 0 ∙ ap (λ ats. 0 ∷ (ats ++ flat_map (below P) (kids_of P 0))) (root-attributes P formed (attrs_of P 0) refl) in
    omega (arith, ap length whole)

-- the one kid
pub lone-top : (P : Table) → length (kids_of P 0) ≡ 1 → kids_of P 0 ≡ top_of P ∷ []
lone-top P one = by (kids_of P 0) one
  where
    by : (ks : List ℕ) → length ks ≡ 1 → ks ≡ slice_index_or ks 0 0 ∷ []
    by [] h = absurd (omega (arith, h))
    by (k ∷ []) h = refl
    by (k ∷ l ∷ ks) h = absurd (omega (arith, h))

-- what the reasons against a place and against the room say, where none holds
module _ (tree : Contents) (p at : ℕ) (P : Table) (free : insertion_refusal tree p at P ≡ None) where
  place : (not (holds_kids (kind_of tree.nodes p)) ≡ false) × (nat_lt (length (kids_of tree.nodes p)) (at - 1) ≡ false)
      × (((p == 0) && (is_element (kind_of P (top_of P)) || is_text (kind_of P (top_of P)))) ≡ false)
      × ((is_text (kind_of P (top_of P)) && is_beside_text tree.nodes (at - 1) (kids_of tree.nodes p)) ≡ false)
  place =
      none-of-four (not (holds_kids (kind_of tree.nodes p))) (nat_lt (length (kids_of tree.nodes p)) (at - 1))
      ((p == 0) && (is_element (kind_of P (top_of P)) || is_text (kind_of P (top_of P))))
      (is_text (kind_of P (top_of P)) && is_beside_text tree.nodes (at - 1) (kids_of tree.nodes p)) WrongKind NotInRange RootElement TextBeside
      (or-none (place_refusal tree.nodes p at (kind_of P (top_of P))) (room_refusal tree p P) free).0

  room : (nat_lt MAX_LIVE_NODES (length (order tree.nodes) + length (nodes_in P)) ≡ false) × (list_any (is_too_deep_at tree.nodes p P) (order P) ≡ false)
      × (nat_lt MAX_LIVE_TEXT_BYTES (text_bytes tree.nodes + text_bytes P) ≡ false)
      × (nat_lt MAX_NODE_NUMBERS (length tree.nodes + length (nodes_in P)) ≡ false)
      × (nat_lt tree.pair_cap (length (order tree.nodes) + length (nodes_in P)) ≡ false)
  room =
      none-of-five (nat_lt MAX_LIVE_NODES (length (order tree.nodes) + length (nodes_in P))) (list_any (is_too_deep_at tree.nodes p P) (order P))
      (nat_lt MAX_LIVE_TEXT_BYTES (text_bytes tree.nodes + text_bytes P)) (nat_lt MAX_NODE_NUMBERS (length tree.nodes + length (nodes_in P)))
      (nat_lt tree.pair_cap (length (order tree.nodes) + length (nodes_in P))) TooManyNodes TooDeep TooMuchText IdsSpent TooManyPairs
      (or-none (place_refusal tree.nodes p at (kind_of P (top_of P))) (room_refusal tree p P) free).1

  beside : is_text (kind_of P (top_of P)) ≡ true →
      (ends_in_text tree.nodes (take (at - 1) (kids_of tree.nodes p)) ≡ false) × (list_any (λ k. is_text (kind_of tree.nodes k)) (take 1 (drop (at - 1) (kids_of tree.nodes p))) ≡ false)
  beside text =
      or-false (ends_in_text tree.nodes (take (at - 1) (kids_of tree.nodes p))) (list_any (λ k. is_text (kind_of tree.nodes k)) (take 1 (drop (at - 1) (kids_of tree.nodes p))))
      (and-false (is_text (kind_of P (top_of P))) (is_beside_text tree.nodes (at - 1) (kids_of tree.nodes p)) place.3 text)

  -- an element of the piece stands no deeper than it may
  shallow : Ordered P → (m : ℕ) → kind_of P m ≡ Some Element → length (above tree.nodes p) + length (ancestors P m) ≤ MAX_DEPTH + 1
  shallow ord m kind =
      let element : is_element (kind_of P m) ≡ true = ap is_element kind in
      ltb-false (MAX_DEPTH + 1) (length (above tree.nodes p) + length (ancestors P m))
      (and-false (is_element (kind_of P m)) (nat_lt (MAX_DEPTH + 1) (length (above tree.nodes p) + length (ancestors P m)))
      (some-of (is_too_deep_at tree.nodes p P) (order P) room.1 m (sym (ord.live_in_order m) ∙ element-live P m element)) element)

  pub may-take : Ordered P → length (kids_of P 0) ≡ 1 → MayTake tree.nodes p (at - 1) P
  may-take ord one = record {
    under = not-true (holds_kids (kind_of tree.nodes p)) place.0;
    among = ltb-false (length (kids_of tree.nodes p)) (at - 1) place.1;
    top = top_of P;
    one = lone-top P one;
    apart = λ text. (beside text).1;
    apart_left = λ text. (beside text).0;
    shallow = shallow ord;
    few_nodes = ltb-false MAX_LIVE_NODES (length (order tree.nodes) + length (nodes_in P)) room.0;
    few_numbers = ltb-false MAX_NODE_NUMBERS (length tree.nodes + length (nodes_in P)) room.3;
    little = ltb-false MAX_LIVE_TEXT_BYTES (text_bytes tree.nodes + text_bytes P) room.2;
  }

  -- no element and no text comes under the root
  pub not-under-root : p ≡ 0 → (is_element (kind_of P (top_of P)) ≡ false) × (is_text (kind_of P (top_of P)) ≡ false)
  not-under-root root =
      or-false (is_element (kind_of P (top_of P))) (is_text (kind_of P (top_of P)))
      (and-false (p == 0) (is_element (kind_of P (top_of P)) || is_text (kind_of P (top_of P))) place.2 (eq-eqb p 0 root))

  pub document-kept : EditsKeepDocuments → WellFormed tree.nodes → WellFormed P → length (kids_of P 0) ≡ 1 → is_document tree.nodes ≡ true → is_document (inserted tree.nodes p (at - 1) P) ≡ true
  unfolding may-take
  document-kept keeps formed piece one document =
      keeps.insertion tree.nodes p (at - 1) P formed piece document (may-take (ordered P (formed-of P piece)) one) not-under-root

-- nothing speaks against the place and the room
pub nothing-against : (tree : Contents) (p at : ℕ) (P : Table) (top : Kind) (reason : Option EditRefusal) → kind_of P (top_of P) ≡ Some top → place_refusal tree.nodes p at (Some top) ≡ None
    → reason ≡ room_refusal tree p P → reason ≡ None → insertion_refusal tree p at P ≡ None
nothing-against tree p at P top reason kind place is room =
    ap₂ option_or (ap (place_refusal tree.nodes p at) kind ∙ place) (sym is ∙ room)

pub lone-mem : (P : Table) → length (kids_of P 0) ≡ 1 → mem (top_of P) (kids_of P 0) ≡ true
lone-mem P one = subst (λ ks. mem (top_of P) ks ≡ true) (sym (lone-top P one)) (mem-head (top_of P) [])

pub first-top : (P : Table) (k : ℕ) → length (kids_of P 0) ≡ 1 → k ≡ slice_index_or (kids_of P 0) 0 k → k ≡ top_of P
first-top P k one h = h ∙ ap (λ ks. slice_index_or ks 0 k) (lone-top P one)

-- the one kid lives, and is of a kind that can be a kid
pub lone-kid : (P : Table) → WellFormed P → length (kids_of P 0) ≡ 1 → can_be_kid (kind_of P (top_of P)) ≡ true
lone-kid P formed one = formed.kid_kind 0 (top_of P) (lone-mem P one)
