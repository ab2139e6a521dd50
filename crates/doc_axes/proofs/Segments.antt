-- Document order round a node: what stands before it, it and all below it, and what stands after.
use Rattle.std.proofs.Common.{◌≡◌, ◌≢◌, ℕ, ◌+◌, ◌≤◌, suc, zero, Bool, true, false, ◌||◌, List, [], ◌∷◌, ◌++◌, length, eqb, Some, refl, sym, ap, ◌∙◌, subst, ⊎_elim, true≢false, arith, append_assoc, append-nil, ne_eqb, eq-eqb}
use Rattle.std.specs.List.{flat_map}
use Rattle.std.specs.Prelude.{filter}
use Rattle.doc_tree.specs.Lists.{mem, occurs}
use Rattle.doc_tree.specs.Table.{Table, parent_of, kids_of, attrs_of, is_live}
use Rattle.doc_tree.specs.Walks.{ancestors, order, below}
use Rattle.doc_tree.specs.Order.{Nested}
use Rattle.doc_tree.specs.Laws.{WellFormed, Ordered, HasWaysUp}
use Rattle.doc_tree.proofs.ListLemmas.{In, In-mem, mem-In, none-mem, occurs-append, occurs-head, eq_or}
use Rattle.std.proofs.lemmas.Grind.{flat_map-append}
use Rattle.doc_tree.proofs.OrderLemmas.{Apart, SplitAt, split_at, after-self, apart-after, below-head, below-listed}
use Rattle.doc_axes.specs.Axes.{backwards, is_after, is_ancestor}
use Rattle.doc_axes.proofs.SubLists.{Sub, done, keep, sub-none, sub-append, sub-occurs, filter-append, occurs-backwards}

abbrev pub listed : Table → ℕ → List ℕ
listed T p = attrs_of T p ++ kids_of T p

-- where a node stands: what is before it and after all below it, its ancestors standing before it
pub record Place (T : Table) (n : ℕ) : Type 0 where
  pub front : List ℕ
  pub back : List ℕ
  pub is : order T ≡ front ++ (below T n ++ back)
  pub ups : Sub (backwards (ancestors T n)) front

-- how a node m stands to n: after it, before it, below it, above it, the same
pub record Stands (T : Table) (n m : ℕ) (behind before under over same : Bool) : Type 0 where
  pub is_behind : is_after T n m ≡ behind
  pub is_before : is_after T m n ≡ before
  pub is_under : is_ancestor T m n ≡ under
  pub is_over : is_ancestor T n m ≡ over
  pub is_same : eqb m n ≡ same

or-false : (a b : Bool) → (a || b) ≡ false → (a ≡ false) × (b ≡ false)
or-false true b h = absurd (true≢false h)
or-false false b h = (refl, h)

or-rest : (a b : Bool) → a ≡ false → (a || b) ≡ true → b ≡ true
or-rest true b e h = absurd (true≢false e)
or-rest false b e h = h

arranged : (front : List ℕ) (p : ℕ) (before here behind back : List ℕ) →
    front ++ ((p ∷ (before ++ (here ++ behind))) ++ back) ≡ (front ++ (p ∷ before)) ++ (here ++ (behind ++ back))
arranged front p before here behind back = simp append_assoc

module _ (T : Table) (form : WellFormed T) (ord : Ordered T) (up : HasWaysUp T) (nest : Nested T) where
  unfoldable pub place_root : Place T 0
  place_root = record {
    front = [];
    back = [];
    is = sym (append-nil (below T 0));
    ups = subst (λ l. Sub (backwards l) []) (sym (up.no_ancestors 0 form.root_parent)) done;
  }

  -- below a parent, split at one of its attributes and kids
  pub below-split : (p n : ℕ) (s : SplitAt n (listed T p)) → below T p ≡ p ∷ (flat_map (below T) s.front ++ (below T n ++ flat_map (below T) s.back))
  below-split p n s =
      below-listed T form ord up p
      ∙ ap (λ l. p ∷ l) (ap (flat_map (below T)) s.is ∙ flat_map-append (below T) s.front (n ∷ s.back))

  pub order-split : (p n : ℕ) (q : Place T p) (s : SplitAt n (listed T p)) →
      order T ≡ (q.front ++ (p ∷ flat_map (below T) s.front)) ++ (below T n ++ (flat_map (below T) s.back ++ q.back))
  order-split p n q s =
      q.is
      ∙ (ap (λ l. q.front ++ (l ++ q.back)) (below-split p n s)
      ∙ arranged q.front p (flat_map (below T) s.front) (below T n) (flat_map (below T) s.back) q.back)

  unfoldable pub place_under : (n p : ℕ) → parent_of T n ≡ Some p → Place T p → SplitAt n (listed T p) → Place T n
  place_under n p e q s = record {
    front = q.front ++ (p ∷ flat_map (below T) s.front);
    back = flat_map (below T) s.back ++ q.back;
    is = order-split p n q s;
    ups = subst (λ l. Sub (backwards l) (q.front ++ (p ∷ flat_map (below T) s.front))) (sym (up.ancestors_at n p e))
        (sub-append q.ups (keep (sub-none (flat_map (below T) s.front))));
  }

  in_list : (n p : ℕ) → parent_of T n ≡ Some p → SplitAt n (listed T p)
  in_list n p e = split_at n (listed T p) (mem-In n (listed T p) (form.is_listed n p e))

  placed : (k n : ℕ) → length (ancestors T n) ≤ k → is_live T n ≡ true → Place T n
  placed zero n short live =
      ⊎_elim (λ (e : n ≡ 0). subst (Place T) (sym e) place_root)
      (λ (ne : n ≢ 0). let h = up.has_parent n live ne in absurd (omega (arith, short, ap length (up.ancestors_at n h.0 h.1))))
      (eq_or n 0)
  placed (suc k) n short live =
      ⊎_elim (λ (e : n ≡ 0). subst (Place T) (sym e) place_root)
      (λ (ne : n ≢ 0). let h = up.has_parent n live ne in
      place_under n h.0 h.1 (placed k h.0 (omega (arith, short, ap length (up.ancestors_at n h.0 h.1))) (up.parent_live n h.0 h.1)) (in_list n h.0 h.1))
      (eq_or n 0)

  pub place : (n : ℕ) → is_live T n ≡ true → Place T n
  place n live = placed (length (ancestors T n)) n (omega arith) live

  -- how often a number stands in the three parts
  parts : (n m : ℕ) (q : Place T n) → occurs m q.front + (occurs m (below T n) + occurs m q.back) ≤ 1
  parts n m q =
      omega (arith, subst (λ l. occurs m l ≤ 1) q.is (ord.once m), occurs-append m q.front (below T n ++ q.back), occurs-append m (below T n) q.back)

  in_order : (n m : ℕ) (q : Place T n) → In m (q.front ++ (below T n ++ q.back)) → is_live T m ≡ true
  in_order n m q h = ord.live_in_order m ∙ In-mem m (order T) (subst (In m) (sym q.is) h)

  self : (n : ℕ) → In n (below T n)
  self n = below-head T form ord up n

  not-over : (n m : ℕ) (q : Place T n) → occurs m q.front ≡ 0 → mem m (ancestors T n) ≡ false
  not-over n m q none = none-mem m (ancestors T n) (omega (arith, none, sub-occurs m q.ups, occurs-backwards m (ancestors T n)))

  not-under : (n m : ℕ) → is_live T m ≡ true → occurs m (below T n) ≡ 0 → mem n (ancestors T m) ≡ false
  not-under n m live none = (or-false (eqb n m) (mem n (ancestors T m)) (sym (nest n m live) ∙ none-mem m (below T n) none)).1

  differ : (n m : ℕ) → occurs m (below T n) ≡ 0 → eqb m n ≡ false
  differ n m none = ne_eqb m n (λ e. absurd (let h : In m (below T n) = subst (λ k. In k (below T n)) (sym e) (self n) in omega (arith, h, none)))

  pub stands_front : (n m : ℕ) (q : Place T n) → In m q.front → Stands T n m false true false (is_ancestor T n m) false
  stands_front n m q h =
      let none : occurs m (below T n) ≡ 0 = omega (arith, parts n m q, h) in
      let live : is_live T m ≡ true = in_order n m q (omega (arith, h, occurs-append m q.front (below T n ++ q.back))) in
      let apart : Apart m n (order T) = record { front = q.front; back = below T n ++ q.back; is = q.is; first = h; second = omega (arith, self n, occurs-append n (below T n) q.back) } in
      let p = apart-after m n (order T) ord.once apart in
      record { is_behind = p.1; is_before = p.0; is_under = not-under n m live none; is_over = refl; is_same = differ n m none }

  pub stands_back : (n m : ℕ) (q : Place T n) → In m q.back → Stands T n m true false false false false
  stands_back n m q h =
      let none : occurs m (below T n) ≡ 0 = omega (arith, parts n m q, h) in
      let live : is_live T m ≡ true = in_order n m q (omega (arith, h, occurs-append m q.front (below T n ++ q.back), occurs-append m (below T n) q.back)) in
      let apart : Apart n m (order T) = record {
        front = q.front ++ below T n;
        back = q.back;
        is = q.is ∙ sym (append_assoc q.front (below T n) q.back);
        first = omega (arith, self n, occurs-append n q.front (below T n));
        second = h;
      } in
      let p = apart-after n m (order T) ord.once apart in
      record {
        is_behind = p.0;
        is_before = p.1;
        is_under = not-under n m live none;
        is_over = not-over n m q (omega (arith, parts n m q, h));
        is_same = differ n m none;
      }

  pub stands_self : (n : ℕ) (q : Place T n) → Stands T n n false false false false true
  stands_self n q =
      let alone : mem n (ancestors T n) ≡ false = not-over n n q (omega (arith, parts n n q, self n)) in
      record {
        is_behind = after-self n (order T) (ord.once n);
        is_before = after-self n (order T) (ord.once n);
        is_under = alone;
        is_over = alone;
        is_same = eq-eqb n n refl;
      }

  pub stands_below : (n m : ℕ) (q : Place T n) → In m (attrs_of T n ++ flat_map (below T) (kids_of T n)) → Stands T n m true false true false false
  stands_below n m q h =
      let under : In m (below T n) = rw ord.below_at (omega (arith, h)) in
      let live : is_live T m ≡ true = in_order n m q (omega (arith, under, occurs-append m q.front (below T n ++ q.back), occurs-append m (below T n) q.back)) in
      let apart : Apart n m (order T) = record {
        front = q.front ++ (n ∷ []);
        back = (attrs_of T n ++ flat_map (below T) (kids_of T n)) ++ q.back;
        is = q.is ∙ (ap (λ l. q.front ++ (l ++ q.back)) (ord.below_at n) ∙ sym (append_assoc q.front (n ∷ []) ((attrs_of T n ++ flat_map (below T) (kids_of T n)) ++ q.back)));
        first = omega (arith, occurs-head n [], occurs-append n q.front (n ∷ []));
        second = omega (arith, h, occurs-append m (attrs_of T n ++ flat_map (below T) (kids_of T n)) q.back);
      } in
      let p = apart-after n m (order T) ord.once apart in
      let other : m ≢ n = λ e. absurd (let two : occurs n (below T n) ≤ 1 = omega (arith, parts n n q) in
      let g : In n (attrs_of T n ++ flat_map (below T) (kids_of T n)) = subst (λ k. In k (attrs_of T n ++ flat_map (below T) (kids_of T n))) e h in
      let more : occurs n (n ∷ (attrs_of T n ++ flat_map (below T) (kids_of T n))) ≤ 1 = rw ord.below_at at two in
      omega (arith, more, g, occurs-head n [], occurs-append n (n ∷ []) (attrs_of T n ++ flat_map (below T) (kids_of T n)))) in
      record {
        is_behind = p.0;
        is_before = p.1;
        is_under = or-rest (eqb n m) (mem n (ancestors T m)) (ne_eqb n m (λ e. other (sym e))) (sym (nest n m live) ∙ In-mem m (below T n) under);
        is_over = not-over n m q (omega (arith, parts n m q, under));
        is_same = ne_eqb m n other;
      }

  -- a filter of document order, part by part
  pub filter-parts : (p : ℕ → Bool) (n : ℕ) (q : Place T n) →
      filter p (order T) ≡ filter p q.front ++ (filter p (n ∷ (attrs_of T n ++ flat_map (below T) (kids_of T n))) ++ filter p q.back)
  filter-parts p n q =
      ap (filter p) (q.is ∙ ap (λ l. q.front ++ (l ++ q.back)) (ord.below_at n))
      ∙ (filter-append p q.front ((n ∷ (attrs_of T n ++ flat_map (below T) (kids_of T n))) ++ q.back)
      ∙ ap (λ l. filter p q.front ++ l) (filter-append p (n ∷ (attrs_of T n ++ flat_map (below T) (kids_of T n))) q.back))
