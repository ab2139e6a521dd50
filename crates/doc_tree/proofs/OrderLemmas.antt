-- Places in document order, from the laws of a tree: what stands before what, and below what.
use Rattle.std.proofs.Common.{◌≡◌, ℕ, ◌+◌, ◌≤◌, suc, zero, Bool, true, false, cond, List, [], ◌∷◌, ◌++◌, length, Option, None, Some, refl, sym, ap, ◌∙◌, subst, ⊎_elim, true≢false, arith, append_assoc, eqb, eq-eqb}
use Rattle.std.specs.List.{flat_map}
use Rattle.std.proofs.lemmas.Grind.{flat_map-append}
use Rattle.doc_table.specs.declared.limits.TheConstants.{MAX_DEPTH}
use Rattle.doc_table.specs.Lists.{mem, occurs, Distinct}
use Rattle.doc_table.specs.Table.{Table, parent_of, kids_of, attrs_of}
use Rattle.doc_table.specs.Walks.{ancestors, above, below}
use Rattle.doc_table.specs.Order.{after, Nested}
use Rattle.doc_table.specs.Laws.{WellFormed, Ordered, HasWaysUp}
use Rattle.doc_table.proofs.ListLemmas.{In, In-mem, mem-In, In-cons, In-append, none-mem, occurs-append, occurs-head, flat_map-same, singles}

-- one number stands in a front part of a list, another in the rest
pub record Apart (a b : ℕ) (xs : List ℕ) : Type 0 where
  pub front : List ℕ
  pub back : List ℕ
  pub is : xs ≡ front ++ back
  pub first : In a front
  pub second : In b back

-- a list split at a number
pub record SplitAt (n : ℕ) (xs : List ℕ) : Type 0 where
  pub front : List ℕ
  pub back : List ℕ
  pub is : xs ≡ front ++ n ∷ back

pub split_at : (n : ℕ) (xs : List ℕ) → In n xs → SplitAt n xs
split_at n [] h = absurd (omega arith)
split_at n (x ∷ xs) h =
    ⊎_elim (λ (e : n ≡ x). let r : SplitAt n (x ∷ xs) = record { front = []; back = xs; is = ap (λ k. k ∷ xs) (sym e) } in r)
    (λ (g : In n xs). let s : SplitAt n xs = split_at n xs g in let r : SplitAt n (x ∷ xs) = record { front = x ∷ s.front; back = s.back; is = ap (λ l. x ∷ l) s.is } in r)
    (In-cons n x xs h)

-- what stands after a number is what follows its first place
pub after-split : (n : ℕ) (xs ys : List ℕ) → occurs n xs ≡ 0 → after n (xs ++ n ∷ ys) ≡ ys
after-split n [] ys none = rw (eq-eqb n n refl) refl
after-split n (x ∷ xs) ys none = by (eqb n x) refl none (λ h. after-split n xs ys h)
  where
    by : (b : Bool) → eqb n x ≡ b → cond b 1 0 + occurs n xs ≡ 0 → (occurs n xs ≡ 0 → after n (xs ++ n ∷ ys) ≡ ys) → cond b (xs ++ n ∷ ys) (after n (xs ++ n ∷ ys)) ≡ ys
    by true e none more = absurd (omega arith)
    by false e none more = more (omega arith)

-- a number that stands once does not stand after itself
pub after-self : (n : ℕ) (xs : List ℕ) → occurs n xs ≤ 1 → mem n (after n xs) ≡ false
after-self n [] h = refl
after-self n (x ∷ xs) h = by (eqb n x) h (λ k. after-self n xs k)
  where
    by : (b : Bool) → cond b 1 0 + occurs n xs ≤ 1 → (occurs n xs ≤ 1 → mem n (after n xs) ≡ false) → mem n (cond b xs (after n xs)) ≡ false
    by true h more = none-mem n xs (omega arith)
    by false h more = more (omega arith)

-- of two numbers apart in a list without repeats the second stands after the first, and not the other way
pub apart-after : (a b : ℕ) (xs : List ℕ) → Distinct xs → Apart a b xs → (mem b (after a xs) ≡ true) × (mem a (after b xs) ≡ false)
apart-after a b xs once apart =
    let s : SplitAt a apart.front = split_at a apart.front apart.first in
    let t : SplitAt b apart.back = split_at b apart.back apart.second in
    let at_a : xs ≡ s.front ++ a ∷ (s.back ++ apart.back) = apart.is ∙ (ap (λ l. l ++ apart.back) s.is ∙ append_assoc s.front (a ∷ s.back) apart.back) in
    let at_b : xs ≡ (apart.front ++ t.front) ++ b ∷ t.back = apart.is ∙ (ap (λ l. apart.front ++ l) t.is ∙ sym (append_assoc apart.front t.front (b ∷ t.back))) in
    let one_a : occurs a (s.front ++ a ∷ (s.back ++ apart.back)) ≤ 1 = subst (λ l. occurs a l ≤ 1) at_a (once a) in
    let one_b : occurs b ((apart.front ++ t.front) ++ b ∷ t.back) ≤ 1 = subst (λ l. occurs b l ≤ 1) at_b (once b) in
    let two_a : occurs a ((apart.front ++ t.front) ++ b ∷ t.back) ≤ 1 = subst (λ l. occurs a l ≤ 1) at_b (once a) in
    let none_a : occurs a s.front ≡ 0 = omega (arith, one_a, occurs-append a s.front (a ∷ (s.back ++ apart.back)), occurs-head a (s.back ++ apart.back)) in
    let none_b : occurs b (apart.front ++ t.front) ≡ 0 = omega (arith, one_b, occurs-append b (apart.front ++ t.front) (b ∷ t.back), occurs-head b t.back) in
    let behind : occurs a t.back ≡ 0 =
    omega (arith, two_a, apart.first, occurs-append a (apart.front ++ t.front) (b ∷ t.back), occurs-append a apart.front t.front) in (
      ap (λ l. mem b (after a l)) at_a ∙ (ap (mem b) (after-split a s.front (s.back ++ apart.back) none_a)
          ∙ In-mem b (s.back ++ apart.back) (omega (arith, apart.second, occurs-append b s.back apart.back))),
      ap (λ l. mem a (after b l)) at_b ∙ (ap (mem a) (after-split b (apart.front ++ t.front) t.back none_b) ∙ none-mem a t.back behind),
    )

pub In-flat_map : (f : ℕ → List ℕ) (n x : ℕ) (xs : List ℕ) → In n xs → In x (f n) → In x (flat_map f xs)
In-flat_map f n x [] h k = absurd (omega arith)
In-flat_map f n x (y ∷ xs) h k =
    ⊎_elim (λ (e : n ≡ y). let here : In x (f y) = subst (λ m. In x (f m)) e k in omega (arith, here, occurs-append x (f y) (flat_map f xs)))
    (λ (g : In n xs). omega (arith, In-flat_map f n x xs g k, occurs-append x (f y) (flat_map f xs)))
    (In-cons n y xs h)

-- what a number among many gives
pub record From (f : ℕ → List ℕ) (x : ℕ) (xs : List ℕ) : Type 0 where
  pub source : ℕ
  pub listed : In source xs
  pub gives : In x (f source)

pub from_flat_map : (f : ℕ → List ℕ) (x : ℕ) (xs : List ℕ) → In x (flat_map f xs) → From f x xs
from_flat_map f x [] h = absurd (omega arith)
from_flat_map f x (y ∷ xs) h =
    ⊎_elim (λ (k : In x (f y)). let r : From f x (y ∷ xs) = record { source = y; listed = occurs-head y xs; gives = k } in r)
    (λ (k : In x (flat_map f xs)). let s : From f x xs = from_flat_map f x xs k in
    let r : From f x (y ∷ xs) = record { source = s.source; listed = omega (arith, s.listed); gives = s.gives } in r)
    (In-append x (f y) (flat_map f xs) h)

nothing : (n : ℕ) (xs : List ℕ) → length xs ≡ 0 → In n xs → ⊥
nothing n [] e g = omega arith
nothing n (x ∷ xs) e g = omega arith

-- a node has one ancestor more than its parent
pub parent-depth : (T : Table) → HasWaysUp T → (n p : ℕ) → parent_of T n ≡ Some p → length (ancestors T n) ≡ 1 + length (ancestors T p)
parent-depth T up n p h = ap length (up.ancestors_at n p h) ∙ omega arith

module _ (T : Table) (form : WellFormed T) (ord : Ordered T) (up : HasWaysUp T) where
  pub below-head : (n : ℕ) → In n (below T n)
  below-head n = rw ord.below_at (occurs-head n (attrs_of T n ++ flat_map (below T) (kids_of T n)))

  -- below a node: the node, then what is below its attributes and kids in turn
  pub below-listed : (p : ℕ) → below T p ≡ p ∷ flat_map (below T) (attrs_of T p ++ kids_of T p)
  below-listed p =
      let alone : flat_map (below T) (attrs_of T p) ≡ attrs_of T p =
      flat_map-same (below T) (λ a. a ∷ []) (attrs_of T p) (λ a h. ord.below_attribute p a (In-mem a (attrs_of T p) h)) ∙ singles (attrs_of T p) in
      ord.below_at p
      ∙ ap (λ l. p ∷ l) (sym (flat_map-append (below T) (attrs_of T p) (kids_of T p) ∙ ap (λ l. l ++ flat_map (below T) (kids_of T p)) alone))

  listed : (m p : ℕ) → parent_of T m ≡ Some p → In m (attrs_of T p ++ kids_of T p)
  listed m p h = mem-In m (attrs_of T p ++ kids_of T p) (form.is_listed m p h)

  pub below-up : (m p x : ℕ) → parent_of T m ≡ Some p → In x (below T m) → In x (below T p)
  below-up m p x h k =
      rw below-listed (omega (arith, In-flat_map (below T) m x (attrs_of T p ++ kids_of T p) (listed m p h) k))

  pub below_parent : (m p x : ℕ) → parent_of T m ≡ Some p → mem x (below T m) ≡ true → mem x (below T p) ≡ true
  below_parent m p x h k = In-mem x (below T p) (below-up m p x h (mem-In x (below T m) k))

  -- what is below a node has it above
  above-parent : (k n p m : ℕ) → length (ancestors T m) ≤ k → parent_of T n ≡ Some p → In n (above T m) → In p (above T m)
  above-parent zero n p m short h k =
      ⊎_elim (λ (e : n ≡ m). absurd (omega (arith, short, parent-depth T up m p (ap (parent_of T) (sym e) ∙ h))))
      (λ (g : In n (ancestors T m)). absurd (nothing n (ancestors T m) (omega arith) g))
      (In-cons n m (ancestors T m) k)
  above-parent (suc steps) n p m short h k =
      ⊎_elim (λ (e : n ≡ m). rw (up.ancestors_at m p (ap (parent_of T) (sym e) ∙ h)) (omega (arith, occurs-head p (ancestors T p))))
      (λ (g : In n (ancestors T m)). by (parent_of T m) refl g (λ q s r. above-parent steps n p q s h r))
      (In-cons n m (ancestors T m) k)
    where
      by : (o : Option ℕ) → parent_of T m ≡ o → In n (ancestors T m) → ((q : ℕ) → length (ancestors T q) ≤ steps → In n (above T q) → In p (above T q)) → In p (above T m)
      by None e g more = absurd (let f : In n [] = subst (In n) (up.no_ancestors m e) g in omega arith)
      by (Some q) e g more =
          let way : ancestors T m ≡ q ∷ ancestors T q = up.ancestors_at m q e in
          let f : In p (above T q) = more q (omega (arith, short, ap length way)) (subst (In n) way g) in
          rw way (omega (arith, f))

  below-has-above : (k n m : ℕ) → MAX_DEPTH + 2 ≤ k + length (ancestors T n) → In m (below T n) → In n (above T m)
  below-has-above zero n m deep h = absurd (omega (arith, up.ancestors_bound n))
  below-has-above (suc k) n m deep h =
      ⊎_elim (λ (e : m ≡ n). subst (λ q. In q (above T m)) e (occurs-head m (ancestors T m)))
      (λ (g : In m (flat_map (below T) (attrs_of T n ++ kids_of T n))).
      let f : From (below T) m (attrs_of T n ++ kids_of T n) = from_flat_map (below T) m (attrs_of T n ++ kids_of T n) g in
      let parent : parent_of T f.source ≡ Some n =
      ⊎_elim (λ (a : In f.source (attrs_of T n)). form.attribute_parent n f.source (In-mem f.source (attrs_of T n) a))
      (λ (a : In f.source (kids_of T n)). form.kid_parent n f.source (In-mem f.source (kids_of T n) a))
      (In-append f.source (attrs_of T n) (kids_of T n) f.listed) in
      above-parent (length (ancestors T m)) f.source n m (omega arith) parent
      (below-has-above k f.source m (omega (arith, deep, parent-depth T up f.source n parent)) f.gives))
      (In-cons m n _ (rw below-listed at h))

  -- what is below a node is below all above it
  above-has-below : (k n m x : ℕ) → length (ancestors T m) ≤ k → In n (above T m) → In x (below T m) → In x (below T n)
  above-has-below zero n m x short h hx =
      ⊎_elim (λ (e : n ≡ m). subst (λ q. In x (below T q)) (sym e) hx)
      (λ (g : In n (ancestors T m)). absurd (nothing n (ancestors T m) (omega arith) g))
      (In-cons n m (ancestors T m) h)
  above-has-below (suc k) n m x short h hx =
      ⊎_elim (λ (e : n ≡ m). subst (λ q. In x (below T q)) (sym e) hx)
      (λ (g : In n (ancestors T m)). by (parent_of T m) refl g (λ q s r f. above-has-below k n q x s r f))
      (In-cons n m (ancestors T m) h)
    where
      by : (o : Option ℕ) → parent_of T m ≡ o → In n (ancestors T m) → ((q : ℕ) → length (ancestors T q) ≤ k → In n (above T q) → In x (below T q) → In x (below T n)) → In x (below T n)
      by None e g more = absurd (let f : In n [] = subst (In n) (up.no_ancestors m e) g in omega arith)
      by (Some q) e g more =
          let way : ancestors T m ≡ q ∷ ancestors T q = up.ancestors_at m q e in
          more q (omega (arith, short, ap length way)) (subst (In n) way g) (below-up m q x e hx)

  pub nested : Nested T
  nested n m live = by (mem m (below T n)) (mem n (above T m)) refl refl
    where
      by : (s t : Bool) → mem m (below T n) ≡ s → mem n (above T m) ≡ t → s ≡ t
      by true true hs ht = refl
      by false false hs ht = refl
      by true false hs ht = absurd (true≢false (sym (In-mem n (above T m) (below-has-above (MAX_DEPTH + 2) n m (omega arith) (mem-In m (below T n) hs))) ∙ ht))
      by false true hs ht = absurd (true≢false (sym (In-mem m (below T n) (above-has-below (length (ancestors T m)) n m m (omega arith) (mem-In n (above T m) ht) (below-head m))) ∙ hs))
