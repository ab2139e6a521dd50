-- What follows and precedes a node, from what does its parent, and what stands below.
use Rattle.std.proofs.Common.{◌≡◌, ◌≢◌, ℕ, ◌+◌, ◌≤◌, Bool, true, false, not, ◌||◌, ◌&&◌, List, [], ◌∷◌, ◌++◌, eqb, Some, None, refl, sym, ap, ap₂, ◌∙◌, subst, ⊎_elim, true≢false, arith, append_assoc, ne_eqb, eq-eqb}
use Rattle.std.specs.List.{flat_map}
use Rattle.std.specs.Prelude.{filter}
use Rattle.doc_tree.specs.declared.axes.Axis.TheVariants.{Following, Preceding}
use Rattle.doc_tree.specs.Lists.{mem, occurs}
use Rattle.doc_tree.specs.Table.{Table, parent_of, kids_of, attrs_of, is_live}
use Rattle.doc_tree.specs.Walks.{ancestors, below}
use Rattle.doc_tree.specs.Order.{Nested}
use Rattle.doc_tree.specs.Laws.{WellFormed, Ordered, HasWaysUp}
use Rattle.doc_tree.proofs.ListLemmas.{In, In-mem, mem-In, In-append, none-mem, occurs-append, occurs-head, eq_or}
use Rattle.std.proofs.lemmas.Grind.{flat_map-append}
use Rattle.doc_tree.proofs.OrderLemmas.{SplitAt, split_at}
use Rattle.doc_axes.specs.Axes.{is_attribute, is_ancestor, axis_order}
use Rattle.doc_axes.specs.Plain.{plain, plain_below}
use Rattle.doc_axes.specs.Siblings.{kids_before, kids_behind}
use Rattle.doc_axes.proofs.SubLists.{sub-occurs, filter-append, filter-same, occurs-backwards}
use Rattle.doc_axes.proofs.Segments.{Place, listed, place, place_root, place_under, order-split}
use Rattle.doc_axes.proofs.AxisLemmas.{plain-attributes, following_axis, preceding_axis}
use Rattle.doc_axes.proofs.SiblingLemmas.{behind-split, before_split}

module _ (T : Table) (form : WellFormed T) (ord : Ordered T) (up : HasWaysUp T) (nest : Nested T) where
  pub plain-append : (xs ys : List ℕ) → plain T (flat_map (below T) (xs ++ ys)) ≡ plain T (flat_map (below T) xs) ++ plain T (flat_map (below T) ys)
  plain-append xs ys = ap (plain T) (flat_map-append (below T) xs ys) ∙ filter-append (λ m. not (is_attribute T m)) (flat_map (below T) xs) (flat_map (below T) ys)

  no-attributes : (p : ℕ) (ats : List ℕ) → ((a : ℕ) → In a ats → In a (attrs_of T p)) → plain T (flat_map (below T) ats) ≡ []
  no-attributes p ats h = plain-attributes T form ord up nest p ats (λ a k. In-mem a (attrs_of T p) (h a k))

  -- the attributes and kids of a parent split at one of them, with the kids on both sides
  record Sides (n p : ℕ) : Type 0 where
    split : SplitAt n (listed T p)
    before_is : plain T (flat_map (below T) split.front) ≡ plain_below T (kids_before n (kids_of T p))
    behind_is : plain T (flat_map (below T) split.back) ≡ plain_below T (kids_behind n (kids_of T p))

  of_kid : (n p : ℕ) → mem n (kids_of T p) ≡ true → Sides n p
  of_kid n p h =
      let s : SplitAt n (kids_of T p) = split_at n (kids_of T p) (mem-In n (kids_of T p) h) in
      record {
        split = record { front = attrs_of T p ++ s.front; back = s.back; is = ap (λ l. attrs_of T p ++ l) s.is ∙ sym (append_assoc (attrs_of T p) s.front (n ∷ s.back)) };
        before_is = plain-append (attrs_of T p) s.front
            ∙ (ap (λ l. l ++ plain T (flat_map (below T) s.front)) (no-attributes p (attrs_of T p) (λ a k. k))
            ∙ ap (plain_below T) (sym (before_split T form ord up nest n p s)));
        behind_is = ap (plain_below T) (sym (behind-split T form ord up nest n p s));
      }

  of_attribute : (n p : ℕ) → In n (attrs_of T p) → mem n (kids_of T p) ≡ false → Sides n p
  of_attribute n p h out =
      let s : SplitAt n (attrs_of T p) = split_at n (attrs_of T p) h in
      record {
        split = record { front = s.front; back = s.back ++ kids_of T p; is = ap (λ l. l ++ kids_of T p) s.is ∙ append_assoc s.front (n ∷ s.back) (kids_of T p) };
        before_is = no-attributes p s.front (λ a k. rw s.is (omega (arith, k, occurs-append a s.front (n ∷ s.back)))) ∙ rw out refl;
        behind_is = plain-append s.back (kids_of T p)
            ∙ (ap (λ l. l ++ plain_below T (kids_of T p)) (no-attributes p s.back (λ a k. rw s.is (omega (arith, k, occurs-append a s.front (n ∷ s.back)))))
            ∙ rw out refl);
      }

  sides : (n p : ℕ) → parent_of T n ≡ Some p → Sides n p
  sides n p e = by (mem n (kids_of T p)) refl
    where
      by : (b : Bool) → mem n (kids_of T p) ≡ b → Sides n p
      by true h = of_kid n p h
      by false h =
          of_attribute n p
          (⊎_elim (λ (k : In n (attrs_of T p)). k) (λ (k : In n (kids_of T p)). absurd (true≢false (sym (In-mem n (kids_of T p) k) ∙ h)))
          (In-append n (attrs_of T p) (kids_of T p) (mem-In n (attrs_of T p ++ kids_of T p) (form.is_listed n p e)))) h

  top : (n : ℕ) → is_live T n ≡ true → parent_of T n ≡ None → n ≡ 0
  top n live none =
      ⊎_elim (λ (e : n ≡ 0). e) (λ (ne : n ≢ 0). absurd (let h = up.has_parent n live ne in let e : parent_of T n ≡ Some h.0 = h.1 in cc)) (eq_or n 0)

  -- nothing follows or precedes the root
  pub no_following : (n : ℕ) → is_live T n ≡ true → parent_of T n ≡ None → axis_order T Following n ≡ []
  unfolding place_root
  no_following n live none = subst (λ k. axis_order T Following k ≡ []) (sym (top n live none)) (following_axis T form ord up nest 0 (place_root T form ord up nest))

  pub no_preceding : (n : ℕ) → is_live T n ≡ true → parent_of T n ≡ None → axis_order T Preceding n ≡ []
  unfolding place_root
  no_preceding n live none = subst (λ k. axis_order T Preceding k ≡ []) (sym (top n live none)) (preceding_axis T form ord up nest 0 (place_root T form ord up nest))

  -- what follows a node: all below the kids after it, then what follows its parent
  pub following_step : (n p : ℕ) → parent_of T n ≡ Some p →
      axis_order T Following n ≡ plain_below T (kids_behind n (kids_of T p)) ++ axis_order T Following p
  unfolding place_under
  following_step n p e =
      let q : Place T p = place T form ord up nest p (up.parent_live n p e) in
      let s : Sides n p = sides n p e in
      following_axis T form ord up nest n (place_under T form ord up nest n p e q s.split)
      ∙ (filter-append (λ m. not (is_attribute T m)) (flat_map (below T) s.split.back) q.back
      ∙ ap₂ (λ l r. l ++ r) s.behind_is (sym (following_axis T form ord up nest p q)))

  -- what precedes a node: what precedes its parent, then all below the kids before it
  pub preceding_step : (n p : ℕ) → parent_of T n ≡ Some p →
      axis_order T Preceding n ≡ axis_order T Preceding p ++ plain_below T (kids_before n (kids_of T p))
  unfolding place_under
  preceding_step n p e =
      let q : Place T p = place T form ord up nest p (up.parent_live n p e) in
      let s : Sides n p = sides n p e in
      let inner : List ℕ = flat_map (below T) s.split.front in
      let others : List ℕ = below T n ++ (flat_map (below T) s.split.back ++ q.back) in
      let kept : ℕ → Bool = λ m. not (is_ancestor T n m) && not (is_attribute T m) in
      let kept_above : ℕ → Bool = λ m. not (is_ancestor T p m) && not (is_attribute T m) in
      let once : (m : ℕ) → occurs m q.front + occurs m (p ∷ inner) ≤ 1 =
      λ m. omega (arith, subst (λ l. occurs m l ≤ 1) (order-split T form ord up nest p n q s.split) (ord.once m), occurs-append m (q.front ++ (p ∷ inner)) others, occurs-append m q.front (p ∷ inner)) in
      let way : (m : ℕ) → is_ancestor T n m ≡ (eqb m p || is_ancestor T p m) = λ m. ap (mem m) (up.ancestors_at n p e) in
      let front : filter kept q.front ≡ axis_order T Preceding p =
      filter-same kept kept_above q.front (λ m h. ap (λ b. not b && not (is_attribute T m)) (way m
      ∙ ap (λ b. b || is_ancestor T p m) (ne_eqb m p (λ x. absurd (let g : 1 ≤ occurs p q.front = subst (λ k. 1 ≤ occurs k q.front) x h in omega (arith, once p, g, occurs-head p inner))))))
      ∙ sym (preceding_axis T form ord up nest p q) in
      let last : filter kept inner ≡ plain_below T (kids_before n (kids_of T p)) =
      filter-same kept (λ m. not (is_attribute T m)) inner (λ m h. ap (λ b. not b && not (is_attribute T m)) (way m
      ∙ (ap (λ b. b || is_ancestor T p m) (ne_eqb m p (λ x. absurd (let g : 1 ≤ occurs p inner = subst (λ k. 1 ≤ occurs k inner) x h in let two : occurs p q.front + (1 + occurs p inner) ≤ 1 = rw (eq-eqb p p refl) at (once p) in omega (arith, two, g))))
      ∙ none-mem m (ancestors T p) (omega (arith, once m, h, sub-occurs m q.ups, occurs-backwards m (ancestors T p))))))
      ∙ s.before_is in
      let parent_out : kept p ≡ false = ap (λ b. not b && not (is_attribute T p)) (way p ∙ ap (λ b. b || is_ancestor T p p) (eq-eqb p p refl)) in
      preceding_axis T form ord up nest n (place_under T form ord up nest n p e q s.split)
      ∙ (filter-append kept q.front (p ∷ inner) ∙ ap₂ (λ l r. l ++ r) front (out kept p inner parent_out ∙ last))
    where
      out : (f : ℕ → Bool) (x : ℕ) (xs : List ℕ) → f x ≡ false → filter f (x ∷ xs) ≡ filter f xs
      out f x xs h = rw h refl
