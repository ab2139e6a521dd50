-- From a number at which no node lives axes lead nowhere.
use Rattle.std.proofs.Common.{◌≡◌, ℕ, Bool, true, false, not, cond, ◌||◌, ◌&&◌, List, [], ◌∷◌, Option, None, Some, eqb, eqb-true, true≢false, is_some, refl, sym, ◌∙◌, ap, ap₂}
use Rattle.doc_tree.specs.declared.axes.Axis.{Axis}
use Rattle.doc_tree.specs.declared.axes.Axis.TheVariants.{Ancestor, AncestorOrSelf, Attribute, Child, Descendant, DescendantOrSelf, Following, FollowingSibling, Parent, Preceding, PrecedingSibling, SelfNode}
use Rattle.doc_tree.specs.Laws.{Ordered, HasWaysUp}
use Rattle.doc_tree.specs.Lists.{mem}
use Rattle.doc_tree.specs.Order.{after}
use Rattle.doc_tree.specs.Scope.{HasScopes}
use Rattle.doc_tree.specs.Table.{Table, Facts, entry_at, is_live, parent_at, kids_at, attrs_at, parent_of}
use Rattle.doc_tree.specs.Walks.{ancestors, order}
use Rattle.doc_tree.proofs.ListLemmas.{In-mem, mem-tail}
use Rattle.doc_axes.specs.Axes.{axis_nodes, axis_order, backwards, is_attribute, is_one, is_reverse, is_sibling, on_axis}
use Rattle.doc_axes.proofs.SubLists.{filter-none}

and_false : (b : Bool) → (b && false) ≡ false
and_false true = refl
and_false false = refl

false_of : (b : Bool) → (b ≡ true → false ≡ true) → b ≡ false
false_of true h = sym (h refl)
false_of false h = refl

either_way : (b : Bool) → cond {A = List ℕ} b [] [] ≡ []
either_way true = refl
either_way false = refl

-- nothing stands after a number that isn't there, and it stands after nothing
after_none : (n : ℕ) (xs : List ℕ) → mem n xs ≡ false → after n xs ≡ []
after_none n [] h = refl
after_none n (x ∷ xs) h =
    elim (eqb n x) as (λ b. (b || mem n xs) ≡ false → cond b xs (after n xs) ≡ []) [
      | true ↦ λ k. absurd (true≢false k)
      | false ↦ λ k. after_none n xs k
    ] h

not_behind : (n m : ℕ) (xs : List ℕ) → mem n xs ≡ false → mem n (after m xs) ≡ false
not_behind n m [] h = refl
not_behind n m (x ∷ xs) h =
    let later : mem n xs ≡ false =
    elim (eqb n x) as (λ b. (b || mem n xs) ≡ false → mem n xs ≡ false) [ true ↦ λ k. absurd (true≢false k) | false ↦ λ k. k ] h in
    elim (eqb m x) as (λ b. mem n (cond b xs (after m xs)) ≡ false) [ true ↦ later | false ↦ not_behind n m xs later ]

empty : (o : Option Facts) → is_some o ≡ false → o ≡ None
empty None h = refl
empty (Some f) h = absurd (true≢false h)

module _ (T : Table) (ord : Ordered T) (up : HasWaysUp T) (scopes : HasScopes T) (n : ℕ) (dead : is_live T n ≡ false) where
  absent : mem n (order T) ≡ false
  absent = sym (ord.live_in_order n) ∙ dead

  no_parent : parent_of T n ≡ None
  no_parent = ap parent_at (empty (entry_at T n) dead)

  -- it is no live node, and no live node's ancestor
  apart : (m : ℕ) → is_live T m ≡ true → eqb m n ≡ false
  apart m live = false_of (eqb m n) (λ e. sym dead ∙ ap (is_live T) (sym (eqb-true m n e)) ∙ live)

  over_none : (m : ℕ) → is_live T m ≡ true → mem n (ancestors T m) ≡ false
  over_none m live = false_of (mem n (ancestors T m)) (λ h. sym dead ∙ scopes.way_live m n live (mem-tail n m (ancestors T m) h))

  off_axis : (axis : Axis) (m : ℕ) → is_live T m ≡ true → on_axis T axis n m ≡ false
  off_axis Ancestor m live = ap (mem m) (up.no_ancestors n no_parent)
  off_axis AncestorOrSelf m live = ap₂ (λ a b. a || b) (ap (mem m) (up.no_ancestors n no_parent)) (apart m live)
  off_axis Attribute m live = ap (λ o. mem m (attrs_at o)) (empty (entry_at T n) dead)
  off_axis Child m live = ap (λ o. mem m (kids_at o)) (empty (entry_at T n) dead)
  off_axis Descendant m live = ap (λ b. b && not (is_attribute T m)) (over_none m live)
  off_axis DescendantOrSelf m live = ap₂ (λ a b. (a && not (is_attribute T m)) || b) (over_none m live) (apart m live)
  off_axis Following m live = ap (λ ms. mem m ms && not (mem n (ancestors T m)) && not (is_attribute T m)) (after_none n (order T) absent)
  off_axis FollowingSibling m live = ap (λ ms. is_sibling T n m && mem m ms) (after_none n (order T) absent) ∙ and_false (is_sibling T n m)
  off_axis Parent m live = ap (λ o. is_one o m) no_parent
  off_axis Preceding m live = ap (λ b. b && not (mem m (ancestors T n)) && not (is_attribute T m)) (not_behind n m (order T) absent)
  off_axis PrecedingSibling m live = ap (λ b. is_sibling T n m && b) (not_behind n m (order T) absent) ∙ and_false (is_sibling T n m)
  off_axis SelfNode m live = apart m live

  pub dead_axis : (axis : Axis) → axis_nodes T axis n ≡ []
  dead_axis axis =
      let none : axis_order T axis n ≡ [] =
      filter-none (on_axis T axis n) (order T) (λ m h. off_axis axis m (ord.live_in_order m ∙ In-mem m (order T) h)) in
      ap (λ ms. cond (is_reverse axis) (backwards ms) ms) none ∙ either_way (is_reverse axis)
