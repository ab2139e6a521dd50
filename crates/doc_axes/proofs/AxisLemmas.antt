-- The nodes on each axis, by the parts of document order round a node.
use Rattle.std.proofs.Common.{◌≡◌, ℕ, Bool, true, false, not, ◌||◌, ◌&&◌, List, [], ◌∷◌, ◌++◌, eqb, Option, None, Some, refl, sym, ap, ap₂, ◌∙◌, subst, ⊎_elim, true≢false, arith, append-nil}
use Rattle.std.specs.List.{flat_map}
use Rattle.std.specs.Prelude.{filter, count_by}
use Rattle.doc_tree.specs.kind.Kind.{Kind}
use Rattle.doc_tree.specs.kind.Kind.TheVariants as kinds
use Rattle.doc_tree.specs.declared.axes.Axis.TheVariants.{Ancestor, AncestorOrSelf, Attribute, Child, Descendant, DescendantOrSelf, Following, Parent, Preceding, SelfNode}
use Rattle.doc_tree.specs.Kinds.{can_be_kid}
use Rattle.doc_tree.specs.Lists.{mem}
use Rattle.doc_tree.specs.Table.{Table, parent_of, kids_of, attrs_of, is_live, kind_of}
use Rattle.doc_tree.specs.Walks.{ancestors, order, below}
use Rattle.doc_tree.specs.Order.{after, Nested}
use Rattle.doc_tree.specs.Laws.{WellFormed, Ordered, HasWaysUp}
use Rattle.doc_tree.proofs.ListLemmas.{In, In-mem, mem-In, In-cons, In-append, occurs-append, flat_map-same, singles}
use Rattle.doc_tree.proofs.OrderLemmas.{below-head}
use Rattle.doc_axes.specs.Axes.{backwards, is_attribute, is_attribute_kind, is_ancestor, is_one, on_axis, axis_order, axis_nodes, AxesPartition}
use Rattle.doc_axes.specs.Plain.{plain, plain_below}
use Rattle.doc_axes.proofs.SubLists.{Sub, done, skip, sub-all, sub-append, sub-front, sub-back, sub-one, filter-sub, filter-append, filter-none, filter-same, backwards-twice, occurs-backwards, mem-same}
use Rattle.doc_axes.proofs.Segments.{Place, Stands, place, stands_front, stands_back, stands_self, stands_below, filter-parts}

or-nil : (b : Bool) → b ≡ (b || false)
or-nil true = refl
or-nil false = refl

and-false : (b : Bool) → (b && false) ≡ false
and-false true = refl
and-false false = refl

mem-push : (m n : ℕ) (xs : List ℕ) → mem m (xs ++ n ∷ []) ≡ (mem m xs || eqb m n)
mem-push m n [] = sym (or-nil (eqb m n))
mem-push m n (x ∷ xs) = by (eqb m x) (mem-push m n xs)
  where
    by : (b : Bool) → mem m (xs ++ n ∷ []) ≡ (mem m xs || eqb m n) → (b || mem m (xs ++ n ∷ [])) ≡ ((b || mem m xs) || eqb m n)
    by true e = refl
    by false e = e

pub plain-kid : (o : Option Kind) → can_be_kid o ≡ true → is_attribute_kind o ≡ false
plain-kid None h = refl
plain-kid (Some kinds.Root) h = refl
plain-kid (Some kinds.Element) h = refl
plain-kid (Some kinds.Attribute) h = absurd (true≢false (sym h))
plain-kid (Some kinds.Text) h = refl
plain-kid (Some kinds.Comment) h = refl
plain-kid (Some kinds.Pi) h = refl

module _ (T : Table) (form : WellFormed T) (ord : Ordered T) (up : HasWaysUp T) (nest : Nested T) where
  pub kid-is_plain : (n k : ℕ) → mem k (kids_of T n) ≡ true → is_attribute T k ≡ false
  kid-is_plain n k h = plain-kid (kind_of T k) (form.kid_kind n k h)

  pub attr-is_attribute : (n a : ℕ) → mem a (attrs_of T n) ≡ true → is_attribute T a ≡ true
  attr-is_attribute n a h = ap is_attribute_kind (form.attribute_kind n a h)

  heads : (ks : List ℕ) → Sub ks (flat_map (below T) ks)
  heads [] = done
  heads (k ∷ ks) = sub-append (sub-one k (below T k) (below-head T form ord up k)) (heads ks)

  pub kids-below : (n : ℕ) → Sub (kids_of T n) (below T n)
  kids-below n = subst (Sub (kids_of T n)) (sym (ord.below_at n)) (skip (sub-back (attrs_of T n) (heads (kids_of T n))))

  attrs-below : (n : ℕ) → Sub (attrs_of T n) (below T n)
  attrs-below n = subst (Sub (attrs_of T n)) (sym (ord.below_at n)) (skip (sub-front (flat_map (below T) (kids_of T n)) (sub-all (attrs_of T n))))

  pub within : (n : ℕ) (a : List ℕ) → Place T n → Sub a (below T n) → Sub a (order T)
  within n a q s = subst (Sub a) (sym q.is) (sub-back q.front (sub-front q.back s))

  in_order : (m : ℕ) → is_live T m ≡ true → In m (order T)
  in_order m live = mem-In m (order T) (sym (ord.live_in_order m) ∙ live)

  pub child_axis : (n : ℕ) → is_live T n ≡ true → kids_of T n ≡ axis_nodes T Child n
  child_axis n live = sym (filter-sub (on_axis T Child n) (within n (kids_of T n) (place T form ord up nest n live) (kids-below n)) ord.once (λ m h. refl))

  pub attribute_axis : (n : ℕ) → is_live T n ≡ true → attrs_of T n ≡ axis_nodes T Attribute n
  attribute_axis n live = sym (filter-sub (on_axis T Attribute n) (within n (attrs_of T n) (place T form ord up nest n live) (attrs-below n)) ord.once (λ m h. refl))

  pub self_axis : (n : ℕ) → is_live T n ≡ true → n ∷ [] ≡ axis_nodes T SelfNode n
  self_axis n live = sym (filter-sub (on_axis T SelfNode n) (sub-one n (order T) (in_order n live)) ord.once (λ m h. or-nil (eqb m n)))

  pub parent_axis : (n p : ℕ) → parent_of T n ≡ Some p → p ∷ [] ≡ axis_nodes T Parent n
  parent_axis n p e =
      sym (filter-sub (on_axis T Parent n) (sub-one p (order T) (in_order p (up.parent_live n p e))) ord.once (λ m h. ap (λ o. is_one o m) e ∙ or-nil (eqb m p)))

  pub no_parent : (n : ℕ) → parent_of T n ≡ None → [] ≡ axis_nodes T Parent n
  no_parent n e = sym (filter-none (on_axis T Parent n) (order T) (λ m h. ap (λ o. is_one o m) e))

  pub ancestor_axis : (n : ℕ) → is_live T n ≡ true → ancestors T n ≡ axis_nodes T Ancestor n
  ancestor_axis n live =
      let q : Place T n = place T form ord up nest n live in
      let s : Sub (backwards (ancestors T n)) (order T) = subst (Sub (backwards (ancestors T n))) (sym q.is) (sub-front (below T n ++ q.back) q.ups) in
      sym (ap backwards (filter-sub (on_axis T Ancestor n) s ord.once (λ m h. mem-same m (ancestors T n) (backwards (ancestors T n)) (sym (occurs-backwards m (ancestors T n)))))
      ∙ backwards-twice (ancestors T n))

  pub ancestor_or_self_axis : (n : ℕ) → is_live T n ≡ true → n ∷ ancestors T n ≡ axis_nodes T AncestorOrSelf n
  ancestor_or_self_axis n live =
      let q : Place T n = place T form ord up nest n live in
      let s : Sub (backwards (n ∷ ancestors T n)) (order T) =
      subst (Sub (backwards (n ∷ ancestors T n))) (sym q.is) (sub-append q.ups (sub-front q.back (sub-one n (below T n) (below-head T form ord up n)))) in
      sym (ap backwards (filter-sub (on_axis T AncestorOrSelf n) s ord.once
      (λ m h. ap (λ b. b || eqb m n) (mem-same m (ancestors T n) (backwards (ancestors T n)) (sym (occurs-backwards m (ancestors T n))))
      ∙ sym (mem-push m n (backwards (ancestors T n)))))
      ∙ backwards-twice (n ∷ ancestors T n))

  pub plain-attributes : (n : ℕ) (ats : List ℕ) → ((a : ℕ) → In a ats → mem a (attrs_of T n) ≡ true) → plain T (flat_map (below T) ats) ≡ []
  plain-attributes n ats h =
      ap (plain T) (flat_map-same (below T) (λ a. a ∷ []) ats (λ a k. ord.below_attribute n a (h a k)) ∙ singles ats)
      ∙ filter-none (λ m. not (is_attribute T m)) ats (λ a k. ap not (attr-is_attribute n a (h a k)))

  rest : ℕ → List ℕ
  rest n = attrs_of T n ++ flat_map (below T) (kids_of T n)

  -- a filter of document order from those of its parts
  joined : (p : ℕ → Bool) (n : ℕ) (q : Place T n) (a b c : List ℕ) → filter p q.front ≡ a → filter p (n ∷ rest n) ≡ b → filter p q.back ≡ c → filter p (order T) ≡ a ++ (b ++ c)
  unfolding rest
  joined p n q a b c ea eb ec = filter-parts T form ord up nest p n q ∙ rw (ea, eb, ec) refl

  head-out : (p : ℕ → Bool) (n : ℕ) (xs : List ℕ) → p n ≡ false → filter p (n ∷ xs) ≡ filter p xs
  head-out p n xs e = rw e refl

  head-in : (p : ℕ → Bool) (n : ℕ) (xs : List ℕ) → p n ≡ true → filter p (n ∷ xs) ≡ n ∷ filter p xs
  head-in p n xs e = rw e refl

  in_attrs : (n m : ℕ) → In m (attrs_of T n) → In m (attrs_of T n ++ flat_map (below T) (kids_of T n))
  in_attrs n m h = omega (arith, h, occurs-append m (attrs_of T n) (flat_map (below T) (kids_of T n)))

  in_kids : (n m : ℕ) → In m (flat_map (below T) (kids_of T n)) → In m (attrs_of T n ++ flat_map (below T) (kids_of T n))
  in_kids n m h = omega (arith, h, occurs-append m (attrs_of T n) (flat_map (below T) (kids_of T n)))

  plain-test : ℕ → Bool
  plain-test m = not (is_attribute T m)

  -- a node that is no attribute and all below it but attributes
  pub plain_at : (n : ℕ) → is_attribute T n ≡ false → plain T (below T n) ≡ n ∷ plain_below T (kids_of T n)
  unfolding rest
  plain_at n e =
      let p : ℕ → Bool = λ m. not (is_attribute T m) in
      let attrs : filter p (attrs_of T n) ≡ [] = filter-none p (attrs_of T n) (λ m h. ap not (attr-is_attribute n m (In-mem m (attrs_of T n) h))) in
      ap (filter p) (ord.below_at n)
      ∙ (head-in p n (rest n) (ap not e)
      ∙ ap (λ l. n ∷ l) (filter-append p (attrs_of T n) (flat_map (below T) (kids_of T n)) ∙ ap (λ l. l ++ plain_below T (kids_of T n)) attrs))

  pub descendant_axis : (n : ℕ) → is_live T n ≡ true → plain_below T (kids_of T n) ≡ axis_nodes T Descendant n
  unfolding rest plain-test
  descendant_axis n live =
      let q : Place T n = place T form ord up nest n live in
      let p : ℕ → Bool = on_axis T Descendant n in
      let attrs : filter p (attrs_of T n) ≡ [] = filter-none p (attrs_of T n)
      (λ m h. ap (λ b. is_ancestor T m n && not b) (attr-is_attribute n m (In-mem m (attrs_of T n) h)) ∙ and-false (is_ancestor T m n)) in
      let kids : filter p (flat_map (below T) (kids_of T n)) ≡ plain_below T (kids_of T n) = filter-same p plain-test (flat_map (below T) (kids_of T n))
      (λ m h. ap (λ b. b && not (is_attribute T m)) (stands_below T form ord up nest n m q (in_kids n m h)).is_under) in
      let middle : filter p (n ∷ rest n) ≡ plain_below T (kids_of T n) =
      head-out p n (rest n) (ap (λ b. b && not (is_attribute T n)) (stands_self T form ord up nest n q).is_under)
      ∙ (filter-append p (attrs_of T n) (flat_map (below T) (kids_of T n)) ∙ ap₂ (λ x y. x ++ y) attrs kids) in
      let front : filter p q.front ≡ [] = filter-none p q.front (λ m h. ap (λ b. b && not (is_attribute T m)) (stands_front T form ord up nest n m q h).is_under) in
      let back : filter p q.back ≡ [] = filter-none p q.back (λ m h. ap (λ b. b && not (is_attribute T m)) (stands_back T form ord up nest n m q h).is_under) in
      sym (joined p n q [] (plain_below T (kids_of T n)) [] front middle back ∙ append-nil (plain_below T (kids_of T n)))

  pub descendant_or_self_axis : (n : ℕ) → is_live T n ≡ true → n ∷ plain_below T (kids_of T n) ≡ axis_nodes T DescendantOrSelf n
  unfolding rest plain-test
  descendant_or_self_axis n live =
      let q : Place T n = place T form ord up nest n live in
      let p : ℕ → Bool = on_axis T DescendantOrSelf n in
      let attrs : filter p (attrs_of T n) ≡ [] = filter-none p (attrs_of T n)
      (λ m h. let s = stands_below T form ord up nest n m q (in_attrs n m h) in
      ap₂ (λ a b. (a && not (is_attribute T m)) || b) s.is_under s.is_same ∙ ap (λ b. not b || false) (attr-is_attribute n m (In-mem m (attrs_of T n) h))) in
      let kids : filter p (flat_map (below T) (kids_of T n)) ≡ plain_below T (kids_of T n) = filter-same p plain-test (flat_map (below T) (kids_of T n))
      (λ m h. let s = stands_below T form ord up nest n m q (in_kids n m h) in
      ap₂ (λ a b. (a && not (is_attribute T m)) || b) s.is_under s.is_same ∙ sym (or-nil (not (is_attribute T m)))) in
      let middle : filter p (n ∷ rest n) ≡ n ∷ plain_below T (kids_of T n) =
      head-in p n (rest n) (let s = stands_self T form ord up nest n q in ap₂ (λ a b. (a && not (is_attribute T n)) || b) s.is_under s.is_same)
      ∙ ap (λ l. n ∷ l) (filter-append p (attrs_of T n) (flat_map (below T) (kids_of T n)) ∙ ap₂ (λ x y. x ++ y) attrs kids) in
      let front : filter p q.front ≡ [] = filter-none p q.front
      (λ m h. let s = stands_front T form ord up nest n m q h in ap₂ (λ a b. (a && not (is_attribute T m)) || b) s.is_under s.is_same) in
      let back : filter p q.back ≡ [] = filter-none p q.back
      (λ m h. let s = stands_back T form ord up nest n m q h in ap₂ (λ a b. (a && not (is_attribute T m)) || b) s.is_under s.is_same) in
      sym (joined p n q [] (n ∷ plain_below T (kids_of T n)) [] front middle back ∙ append-nil (n ∷ plain_below T (kids_of T n)))

  pub following_axis : (n : ℕ) (q : Place T n) → axis_order T Following n ≡ plain T q.back
  unfolding rest plain-test
  following_axis n q =
      let p : ℕ → Bool = on_axis T Following n in
      let front : filter p q.front ≡ [] = filter-none p q.front
      (λ m h. ap (λ b. (b && not (is_ancestor T m n)) && not (is_attribute T m)) (stands_front T form ord up nest n m q h).is_behind) in
      let inside : filter p (rest n) ≡ [] = filter-none p (rest n)
      (λ m h. ap (λ b. (mem m (after n (order T)) && not b) && not (is_attribute T m)) (stands_below T form ord up nest n m q h).is_under
      ∙ ap (λ b. b && not (is_attribute T m)) (and-false (mem m (after n (order T))))) in
      let middle : filter p (n ∷ rest n) ≡ [] =
      head-out p n (rest n) (ap (λ b. (b && not (is_ancestor T n n)) && not (is_attribute T n)) (stands_self T form ord up nest n q).is_behind) ∙ inside in
      let back : filter p q.back ≡ plain T q.back = filter-same p plain-test q.back
      (λ m h. let s = stands_back T form ord up nest n m q h in ap₂ (λ a b. (a && not b) && not (is_attribute T m)) s.is_behind s.is_under) in
      joined p n q [] [] (plain T q.back) front middle back

  pub preceding_axis : (n : ℕ) (q : Place T n) → axis_order T Preceding n ≡ filter (λ m. not (is_ancestor T n m) && not (is_attribute T m)) q.front
  unfolding rest
  preceding_axis n q =
      let p : ℕ → Bool = on_axis T Preceding n in
      let kept : ℕ → Bool = λ m. not (is_ancestor T n m) && not (is_attribute T m) in
      let front : filter p q.front ≡ filter kept q.front = filter-same p kept q.front
      (λ m h. ap (λ b. (b && not (is_ancestor T n m)) && not (is_attribute T m)) (stands_front T form ord up nest n m q h).is_before) in
      let inside : filter p (rest n) ≡ [] = filter-none p (rest n)
      (λ m h. ap (λ b. (b && not (is_ancestor T n m)) && not (is_attribute T m)) (stands_below T form ord up nest n m q h).is_before) in
      let middle : filter p (n ∷ rest n) ≡ [] =
      head-out p n (rest n) (ap (λ b. (b && not (is_ancestor T n n)) && not (is_attribute T n)) (stands_self T form ord up nest n q).is_before) ∙ inside in
      let back : filter p q.back ≡ [] = filter-none p q.back
      (λ m h. ap (λ b. (b && not (is_ancestor T n m)) && not (is_attribute T m)) (stands_back T form ord up nest n m q h).is_before) in
      joined p n q (filter kept q.front) [] [] front middle back ∙ append-nil (filter kept q.front)

  -- the five axes that part the document
  tally : Bool → Bool → Bool → Bool → Bool → Bool → ℕ
  tally behind before under over same attr =
      count_by (λ (b : Bool). b) (over ∷ (under && not attr) ∷ ((behind && not under) && not attr) ∷ ((before && not over) && not attr) ∷ same ∷ [])

  tallied : (n m : ℕ) (behind before under over same : Bool) → Stands T n m behind before under over same → is_attribute T m ≡ false →
      count_by (λ axis. on_axis T axis n m) (Ancestor ∷ Descendant ∷ Following ∷ Preceding ∷ SelfNode ∷ []) ≡ tally behind before under over same false
  unfolding tally
  tallied n m behind before under over same s e =
      let axes : List Bool = is_ancestor T n m ∷ (is_ancestor T m n && not (is_attribute T m)) ∷ ((mem m (after n (order T)) && not (is_ancestor T m n)) && not (is_attribute T m))
      ∷ ((mem n (after m (order T)) && not (is_ancestor T n m)) && not (is_attribute T m)) ∷ eqb m n ∷ [] in
      rw (s.is_behind, s.is_before, s.is_under, s.is_over, s.is_same, e) refl

  pub partition : AxesPartition T
  unfolding tally
  partition n m live_n live_m e =
      let q : Place T n = place T form ord up nest n live_n in
      ⊎_elim
      (λ (h : In m q.front). by (is_ancestor T n m) (stands_front T form ord up nest n m q h))
      (λ (h : In m (below T n ++ q.back)). ⊎_elim
      (λ (k : In m (below T n)). ⊎_elim
      (λ (same : m ≡ n). subst (λ k. count_by (λ axis. on_axis T axis n k) (Ancestor ∷ Descendant ∷ Following ∷ Preceding ∷ SelfNode ∷ []) ≡ 1) (sym same)
      (tallied n n false false false false true (stands_self T form ord up nest n q) (subst (λ k. is_attribute T k ≡ false) same e)))
      (λ (g : In m (attrs_of T n ++ flat_map (below T) (kids_of T n))). tallied n m true false true false false (stands_below T form ord up nest n m q g) e)
      (In-cons m n (attrs_of T n ++ flat_map (below T) (kids_of T n)) (rw ord.below_at at k)))
      (λ (k : In m q.back). tallied n m true false false false false (stands_back T form ord up nest n m q k) e)
      (In-append m (below T n) q.back h))
      (In-append m q.front (below T n ++ q.back) (subst (In m) q.is (in_order m live_m)))
    where
      by : (over : Bool) → Stands T n m false true false over false → count_by (λ axis. on_axis T axis n m) (Ancestor ∷ Descendant ∷ Following ∷ Preceding ∷ SelfNode ∷ []) ≡ 1
      by true s = tallied n m false true false true false s e
      by false s = tallied n m false true false false false s e
