-- The events of a node in scope are a fragment, which makes that node again.
use Rattle.std.proofs.Common.{◌≡◌, ℕ, ◌≤◌, zero, suc, true, false, List, [], ◌∷◌, ◌++◌, length, map, Option, None, Some, is_some, refl, sym, ap, ◌∙◌, subst, arith, append-nil, length-append}
use Rattle.std.specs.Prelude.{sum_by}
use Rattle.std.specs.List.{flat_map}
use Rattle.sch_base.specs.Names.{QNamesSplit}
use Rattle.pyx_core.specs.declared.event.Event.{Event}
use Rattle.doc_tree.specs.kind.Kind.TheVariants.{Root}
use Rattle.doc_tree.specs.limits.TheConstants.{MAX_LIVE_NODES}
use Rattle.doc_tree.specs.Kinds.{can_be_kid}
use Rattle.doc_tree.specs.Laws.{WellFormed, WellFormedIsEnough}
use Rattle.doc_tree.specs.Lines.{Line, lines, lines_below}
use Rattle.doc_tree.specs.Scope.{Decl, scope_at}
use Rattle.doc_tree.specs.Table.{Table, Content, root, element, attribute, text, comment, instruction, Facts, content_at, content_of, decls_at, entry_at, is_live, kids_of, kind_at, kind_of, parent_of, value_of}
use Rattle.doc_tree.specs.Walks.{ancestors, below}
use Rattle.name_scopes.specs.Fragments.{IsFragment, PieceInScope, ScopedPiece, event_nodes, is_too_deep, names_fault, plain_text, some_tag, tag_doubles, tag_lacks_prefix}
use Rattle.name_scopes.specs.ScopedTree.{said_by, unscoped}
use Rattle.name_scopes.specs.Scoping.{ContentInScope, InScope}
use Rattle.name_scopes.proofs.ItemLines.{items-again}
use Rattle.name_scopes.proofs.ItemScoped.{items-fit, texts-are}
use Rattle.name_scopes.proofs.ItemScopes.{items-resolved, resolved}
use Rattle.name_scopes.proofs.ItemTables.{AreKids, IsTree, item, item-lines-are, item-nodes-are, items_at, kids-are}
use Rattle.name_scopes.proofs.Items.{Fit, Items, item_events, item_lines, item_nodes, nothing}
use Rattle.name_scopes.proofs.RoundTripLemmas.{items_of, tree-lines}
use Rattle.subtree_events.specs.Events.{events_below}
use Rattle.subtree_events.specs.Subtrees.{IsSubtree, SubtreesAreFragments}
use Rattle.subtree_events.proofs.FragmentNest.{IsOne, item-fragment}
use Rattle.subtree_events.proofs.FragmentTests.{apart-pass, depths-pass, known-pass, names-pass}
use Rattle.subtree_events.proofs.SubtreeItems.{events-bytes, events-nodes, item-bytes-are, item-events-are}

-- lines of items, with their namespaces taken away and given back
resolved-items : (around : List Decl) (depth : ℕ) (items : Items) → Fit around depth false items → resolved (around ∷ []) (map unscoped (item_lines items)) ≡ item_lines items
resolved-items around depth items fit =
    ap (resolved (around ∷ [])) (sym (append-nil (map unscoped (item_lines items))))
    ∙ (items-resolved around [] depth false items [] fit ∙ append-nil (item_lines items))

root-decls : (c : Option Content) → kind_at c ≡ Some Root → decls_at c ≡ []
root-decls None kind = refl
root-decls (Some root) kind = refl
root-decls (Some (element name decls)) kind = absurd (cc)
root-decls (Some (attribute name value)) kind = refl
root-decls (Some (text characters)) kind = refl
root-decls (Some (comment characters)) kind = refl
root-decls (Some (instruction name body)) kind = refl

-- a piece says what its items say
piece-resolved : (around : List Decl) (P : Table) → IsTree P → PieceInScope around P → resolved (around ∷ []) (map unscoped (lines P)) ≡ lines P
piece-resolved around P tree scoped =
    let fit : Fit (scope_at P 0 ++ around) (length (ancestors P 0)) false (items_of P) =
    items-fit around P tree scoped (length P) 0 (kids_of P 0) (kids-are P tree.formed 0) (texts-are P (kids_of P 0) (tree.formed.texts_apart 0)) in
    let none : scope_at P 0 ≡ [] = tree.scopes.at_top 0 tree.formed.root_parent ∙ root-decls (content_of P 0) tree.formed.root_kind in
    let here : Fit around (length (ancestors P 0)) false (items_of P) = subst (λ (s : List Decl). Fit (s ++ around) (length (ancestors P 0)) false (items_of P)) none fit in
    ap (λ (l : List Line). resolved (around ∷ []) (map unscoped l)) (tree-lines P tree)
    ∙ (resolved-items around (length (ancestors P 0)) (items_of P) here ∙ sym (tree-lines P tree))

one-kid : (T : Table) (kids : List ℕ → Items) (n : ℕ) (c : Option Content) → can_be_kid (kind_at c) ≡ true → IsOne (item T kids n c nothing)
one-kid T kids n None can = absurd (cc)
one-kid T kids n (Some root) can = absurd (cc)
one-kid T kids n (Some (element name decls)) can = refl
one-kid T kids n (Some (attribute name value)) can = absurd (cc)
one-kid T kids n (Some (text characters)) can = refl
one-kid T kids n (Some (comment characters)) can = refl
one-kid T kids n (Some (instruction name body)) can = refl

one-item : (T : Table) (levels n : ℕ) → 1 ≤ levels → can_be_kid (kind_of T n) ≡ true → IsOne (items_at T levels (n ∷ []))
one-item T zero n some can = absurd (omega (arith, some))
one-item T (suc levels) n some can = one-kid T (λ ms. items_at T levels ms) n (content_of T n) can

kid-live : (T : Table) (n : ℕ) → can_be_kid (kind_of T n) ≡ true → is_live T n ≡ true
kid-live T n can = by (entry_at T n) can
  where
    by : (o : Option Facts) → can_be_kid (kind_at (content_at o)) ≡ true → is_some o ≡ true
    by None h = h
    by (Some node) h = refl

module _ (splits : QNamesSplit) (laws : WellFormedIsEnough) (T : Table) (n p : ℕ) (form : WellFormed T) (scoped : InScope T) (up : parent_of T n ≡ Some p) (can : can_be_kid (kind_of T n) ≡ true) where
  tree-of : (P : Table) → WellFormed P → IsTree P
  tree-of P piece = let l = laws P piece in record { formed = piece; ordered = l.0; ways = l.1; walks = l.2; scopes = l.3 }

  tree : IsTree T
  tree = tree-of T form

  abbrev items : Items
  items = items_at T (length T) (n ∷ [])

  abbrev depth : ℕ
  depth = length (ancestors T p)

  abbrev around : List Decl
  around = scope_at T p

  are : AreKids T p (n ∷ [])
  are = (can, up, tt)

  live : is_live T n ≡ true
  live = kid-live T n can

  some : 1 ≤ length T
  some = omega (arith, tree.ordered.made n (sym (tree.ordered.live_in_order n) ∙ live))

  none-around : PieceInScope [] T
  none-around m = subst (λ (s : List Decl). ContentInScope s (content_of T m)) (sym (append-nil (scope_at T m))) (scoped m)

  fit : Fit around depth false items
  fit =
      subst (λ (s : List Decl). Fit s depth false items) (append-nil around)
      (items-fit [] T tree none-around (length T) p (n ∷ []) are (refl, tt))

  events-are : events_below T n ≡ item_events items
  events-are = sym (append-nil (events_below T n)) ∙ item-events-are T form (length T) p (n ∷ []) are

  lines-are : lines_below T n ≡ item_lines items
  lines-are = sym (append-nil (lines_below T n)) ∙ item-lines-are T form (length T) p (n ∷ []) are

  nodes-are : item_nodes items ≡ length (below T n)
  nodes-are = item-nodes-are T form (length T) p (n ∷ []) are ∙ ap length (append-nil (below T n))

  bytes-are : sum_by (λ m. length (value_of T m)) (below T n ++ []) ≡ sum_by (λ m. length (value_of T m)) (below T n)
  bytes-are = ap (sum_by (λ m. length (value_of T m))) (append-nil (below T n))

  few : item_nodes items ≤ MAX_LIVE_NODES
  few =
      let place = tree.ordered.below_in_order n live in
      omega (arith, nodes-are, form.few_nodes, ap length place.2, length-append place.0 (below T n ++ place.1), length-append (below T n) place.1)

  whole : (l : List Event) → l ≡ item_events items → item_events items ++ [] ≡ l
  whole l e = append-nil (item_events items) ∙ sym e

  around-one : Fit (around ++ []) depth false items
  around-one = subst (λ (s : List Decl). Fit s depth false items) (sym (append-nil around)) fit

  again : (P : Table) → WellFormed P → ScopedPiece around (events_below T n) P → lines P ≡ lines_below T n
  again P piece same =
      sym (piece-resolved around P (tree-of P piece) same.in_scope)
      ∙ (ap (resolved (around ∷ [])) (same.lines_are ∙ (ap (flat_map said_by) events-are ∙ sym (items-again splits around depth false items fit)))
      ∙ (resolved-items around depth items fit ∙ sym lines-are))

  pub is-subtree : IsSubtree T n p (events_below T n)
  is-subtree = record {
    fragment = subst IsFragment (sym events-are) (item-fragment splits around depth items fit (one-item T (length T) n some can));
    names = ap names_fault (sym (whole (events_below T n) events-are)) ∙ names-pass splits items around depth false [] fit few;
    known = ap (some_tag tag_lacks_prefix (around ∷ [])) (sym (whole (events_below T n) events-are)) ∙ known-pass splits items depth false (around ∷ []) [] around-one few;
    apart = ap (some_tag tag_doubles (around ∷ [])) (sym (whole (events_below T n) events-are)) ∙ apart-pass splits items depth false (around ∷ []) [] around-one few;
    shallow = ap (is_too_deep (suc depth)) (sym (whole (events_below T n) events-are)) ∙ depths-pass items around depth false [] fit;
    nodes = ap (sum_by event_nodes) events-are ∙ (events-nodes splits around depth false items fit ∙ nodes-are);
    text = ap (sum_by plain_text) events-are ∙ (events-bytes splits around depth false items fit ∙ (item-bytes-are T form (length T) p (n ∷ []) are ∙ bytes-are));
    again = again;
  }

pub subtrees-are-fragments : QNamesSplit → WellFormedIsEnough → SubtreesAreFragments
subtrees-are-fragments splits laws T n p form scoped up can = is-subtree splits laws T n p form scoped up can
