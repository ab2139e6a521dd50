-- Places among siblings: how a walk over the kids counts them.
use Rattle.std.proofs.Common.{◌≡◌, ℕ, zero, suc, ◌+◌, ◌<◌, ◌≤◌, ◌==◌, Bool, true, false, ◌||◌, List, [], ◌∷◌, ◌++◌, length, take, drop, add-one, slice_index_or, Option, Some, if◌then◌else◌, ◌≢◌, ◌⊎◌, ⊎_elim, inl, inr, slice_set, get_or-set_same, get_or-set_other, refl, ap, sym, ◌∙◌, subst, arith}
use Rattle.std.proofs.Math.Seq.{take-suc, drop-cons}
use Rattle.std.proofs.Math.ListN.{take-append-drop}
use Rattle.std.proofs.lemmas.Bool.{eqb-true, eq-eqb, false_from_ne_true}
use Rattle.doc_tree.specs.Lists.{mem, occurs, Distinct}
use Rattle.doc_tree.specs.Table.{Table, kind_of}
use Rattle.doc_tree.specs.kind.Kind.{Kind}
use Rattle.doc_tree.specs.kind.Kind.TheVariants.{Root, Element, Attribute, Text, Comment, Pi}
use Rattle.doc_tree.specs.Kinds.{is_kind}
use Rattle.doc_locations.specs.declared.places.Counts.{Counts}
use Rattle.doc_locations.specs.Locations.{has_kind, place_among}
use Rattle.doc_locations.specs.inner.Places.{count_of, count_for, number_of, ArePlaced}

-- a number is itself
same : (n : ℕ) → (n == n) ≡ true
same n = eq-eqb n n refl

pub mem-item : (ns : List ℕ) (i d : ℕ) → i < length ns → mem (slice_index_or ns i d) ns ≡ true
mem-item [] i d less = absurd (omega arith)
mem-item (n ∷ ns) zero d less = rw (same n) refl
mem-item (n ∷ ns) (suc i) d less = rw (mem-item ns i d (omega arith)) (or_true (slice_index_or ns i d == n))
  where
    or_true : (b : Bool) → b || true ≡ true
    or_true true = refl
    or_true false = refl

-- one more in front of a number makes it stand once more
occurs_one : (n m : ℕ) (ms : List ℕ) → occurs n ms ≤ occurs n (m ∷ ms)
occurs_one n m ms = by_eq (n == m)
  where
    by_eq : (b : Bool) → occurs n ms ≤ (if b then 1 else 0) + occurs n ms
    by_eq true = omega arith
    by_eq false = omega arith

-- a number among the first ones stands there
mem-occurs : (n : ℕ) (ms : List ℕ) → mem n ms ≡ true → 1 ≤ occurs n ms
mem-occurs n [] is = absurd (cc)
mem-occurs n (m ∷ ms) is = by_eq (n == m) refl (mem-occurs n ms) is
  where
    by_eq : (b : Bool) → (n == m) ≡ b → (mem n ms ≡ true → 1 ≤ occurs n ms) → b || mem n ms ≡ true → 1 ≤ (if b then 1 else 0) + occurs n ms
    by_eq true e later is = omega arith
    by_eq false e later is = omega (arith, later is)

occurs-append : (n : ℕ) (xs ys : List ℕ) → occurs n (xs ++ ys) ≡ occurs n xs + occurs n ys
occurs-append n [] ys = omega arith
occurs-append n (x ∷ xs) ys = omega (arith, occurs-append n xs ys)

-- where no number stands twice, none of the front stands behind it
pub not_in_front : (front : List ℕ) (k : ℕ) (back : List ℕ) → Distinct (front ++ k ∷ back) → mem k front ≡ false
not_in_front front k back once = false_from_ne_true (mem k front) (λ (is : mem k front ≡ true). absurd (omega (arith, once k, occurs-append k front (k ∷ back), mem-occurs k front is, itself k back)))
  where
    itself : (k : ℕ) (back : List ℕ) → 1 ≤ occurs k (k ∷ back)
    itself k back = rw (same k) (omega arith)

pub count_of-append : (passes : ℕ → Bool) (xs ys : List ℕ) → count_of passes (xs ++ ys) ≡ count_of passes xs + count_of passes ys
count_of-append passes [] ys = omega arith
count_of-append passes (x ∷ xs) ys = omega (arith, count_of-append passes xs ys)

-- the place of a number that passes is one more than how many pass before it
pub place_among-at : (passes : ℕ → Bool) (front : List ℕ) (k : ℕ) (back : List ℕ) → mem k front ≡ false → passes k ≡ true → place_among passes k (front ++ k ∷ back) ≡ count_of passes front + 1
place_among-at passes [] k back apart is = rw (is, same k) (omega arith)
place_among-at passes (x ∷ front) k back apart is = by_eq (k == x) refl (λ (later : mem k front ≡ false). place_among-at passes front k back later is) apart
  where
    swapped : (x k : ℕ) → (k == x) ≡ false → (x == k) ≡ false
    swapped x k is = false_from_ne_true (x == k) (λ (e : (x == k) ≡ true). let s : (k == x) ≡ true = eq-eqb k x (sym (eqb-true x k e)) in absurd (cc))

    by_eq : (b : Bool) → (k == x) ≡ b → (mem k front ≡ false → place_among passes k (front ++ k ∷ back) ≡ count_of passes front + 1) → b || mem k front ≡ false → place_among passes k (x ∷ front ++ k ∷ back) ≡ count_of passes (x ∷ front) + 1
    by_eq true e later apart = absurd (cc)
    by_eq false e later apart = rw (swapped x k e) (omega (arith, later apart))

-- the places when the kids in front were counted
pub record Counted (T : Table) (before kids front places : List ℕ) (counts : Counts) : Type 0 where
  pub counted : (kind : Kind) → count_for counts kind ≡ count_of (has_kind T kind) front
  pub placed : ArePlaced T kids places front
  pub others : (n : ℕ) → mem n front ≡ false → slice_index_or places n 0 ≡ slice_index_or before n 0

pub mem-append : (n : ℕ) (xs ys : List ℕ) → mem n (xs ++ ys) ≡ mem n xs || mem n ys
mem-append n [] ys = refl
mem-append n (x ∷ xs) ys = rw (mem-append n xs ys) (joined (n == x) (mem n xs) (mem n ys))
  where
    joined : (a b c : Bool) → a || (b || c) ≡ (a || b) || c
    joined true b c = refl
    joined false b c = refl

-- the last one, or one before it
pub mem-last : (n k : ℕ) (front : List ℕ) → mem n (front ++ k ∷ []) ≡ true → (mem n front ≡ true) ⊎ (n ≡ k)
mem-last n k front is = by (mem n front) (n == k) refl refl (sym (mem-append n front (k ∷ [])) ∙ is)
  where
    by : (a b : Bool) → mem n front ≡ a → (n == k) ≡ b → a || (b || false) ≡ true → (mem n front ≡ true) ⊎ (n ≡ k)
    by true b e f is = inl e
    by false true e f is = inr (eqb-true n k f)
    by false false e f is = absurd (cc)

not_mem-last : (n k : ℕ) (front : List ℕ) → mem n (front ++ k ∷ []) ≡ false → (mem n front ≡ false) × (n ≢ k)
not_mem-last n k front is = by (mem n front) (n == k) refl refl (sym (mem-append n front (k ∷ [])) ∙ is)
  where
    by : (a b : Bool) → mem n front ≡ a → (n == k) ≡ b → a || (b || false) ≡ false → (mem n front ≡ false) × (n ≢ k)
    by true b e f is = absurd (cc)
    by false true e f is = absurd (cc)
    by false false e f is = (e, λ (s : n ≡ k). let t : (n == k) ≡ true = eq-eqb n k s in absurd (cc))

apart : (n k : ℕ) (front : List ℕ) → mem n front ≡ true → mem k front ≡ false → n ≢ k
apart n k front is no_k e = let t : mem k front ≡ true = rw (← e) is in absurd (cc)

-- no more pass than there are
count_of-few : (passes : ℕ → Bool) (ms : List ℕ) → count_of passes ms ≤ length ms
count_of-few passes [] = omega arith
count_of-few passes (m ∷ ms) = by (passes m) (count_of-few passes ms)
  where
    by : (b : Bool) → count_of passes ms ≤ length ms → (if b then 1 else 0) + count_of passes ms ≤ suc (length ms)
    by true fewer = omega arith
    by false fewer = omega arith

-- each number below that of all kinds is a kind's
pub kind_numbered : (k : ℕ) → k < 6 → (kind : Kind) × (number_of kind ≡ k)
kind_numbered zero less = (Root, refl)
kind_numbered (suc zero) less = (Element, refl)
kind_numbered (suc (suc zero)) less = (Attribute, refl)
kind_numbered (suc (suc (suc zero))) less = (Text, refl)
kind_numbered (suc (suc (suc (suc zero)))) less = (Comment, refl)
kind_numbered (suc (suc (suc (suc (suc zero))))) less = (Pi, refl)
kind_numbered (suc (suc (suc (suc (suc (suc k)))))) less = absurd (omega (arith, less))

-- no more kids were counted than there are
pub counted-few : (T : Table) (before kids front places : List ℕ) (counts : Counts) (kind : Kind) → Counted T before kids front places counts → count_for counts kind ≤ length front
counted-few T before kids front places counts kind so = omega (arith, so.counted kind, count_of-few (has_kind T kind) front)

-- a kind is itself
pub same_kind : (kind : Kind) → is_kind kind (Some kind) ≡ true
same_kind Root = refl
same_kind Element = refl
same_kind Attribute = refl
same_kind Text = refl
same_kind Comment = refl
same_kind Pi = refl

-- the next kid gets the next place among those of its kind
pub counted-next : (T : Table) (before kids front back places : List ℕ) (k : ℕ) (kind : Kind) (counts more : Counts) → kids ≡ front ++ k ∷ back → Distinct kids → k < length places → kind_of T k ≡ Some kind →
    ((other : Kind) → count_for more other ≡ (if is_kind other (Some kind) then 1 else 0) + count_for counts other) →
    Counted T before kids front places counts → Counted T before kids (front ++ k ∷ []) (slice_set places k (count_for counts kind + 1)) more
counted-next T before kids front back places k kind counts more split once room is next so =
    let no_k : mem k front ≡ false = not_in_front front k back (rw split at once) in
    let passes : has_kind T kind k ≡ true = ap (is_kind kind) is ∙ same_kind kind in
    let at : place_among (has_kind T kind) k kids ≡ count_for counts kind + 1 = rw split (place_among-at (has_kind T kind) front k back no_k passes ∙ ap (λ (n : ℕ). n + 1) (sym (so.counted kind))) in
    record {
      counted = λ other. (let one : count_of (has_kind T other) (k ∷ []) ≡ (if is_kind other (Some kind) then 1 else 0) + 0 = ap (λ (o : Option Kind). (if is_kind other o then 1 else 0) + 0) is in
          omega (arith, next other, so.counted other, count_of-append (has_kind T other) front (k ∷ []), one));
      placed = λ kid own there of. ⊎_elim
          (λ (e : mem kid front ≡ true). let ne : kid ≢ k = apart kid k front e no_k in rw get_or-set_other (so.placed kid own e of))
          (λ (e : kid ≡ k). let same : Some own ≡ Some kind = sym of ∙ (ap (kind_of T) e ∙ is) in let own_is : own ≡ kind = cc in rw (own_is, e, get_or-set_same) (sym at))
          (mem-last kid k front there);
      others = λ n away. let parts = not_mem-last n k front away in let ne : n ≢ k = parts.1 in rw get_or-set_other (so.others n parts.0);
    }

-- the item at a place is in the list
pub mem-at : (ns : List ℕ) (i x : ℕ) → x ≡ slice_index_or ns i x → i < length ns → mem x ns ≡ true
mem-at ns i x is less = subst (λ (n : ℕ). mem n ns ≡ true) (sym is) (mem-item ns i x less)

-- a list is what stands before a place, the item there, and what is behind it
pub cut_at : (ns : List ℕ) (i x : ℕ) → x ≡ slice_index_or ns i x → i < length ns → ns ≡ take i ns ++ x ∷ drop (suc i) ns
cut_at ns i x is less = sym (take-append-drop i ns) ∙ ap (λ (rest : List ℕ). take i ns ++ rest) (drop-cons ns i x less) ∙ ap (λ (n : ℕ). take i ns ++ n ∷ drop (suc i) ns) (sym is)

-- one item more is taken
pub take-next : (ns : List ℕ) (i x : ℕ) → x ≡ slice_index_or ns i x → i < length ns → take (i + 1) ns ≡ take i ns ++ x ∷ []
take-next ns i x is less = rw add-one (take-suc ns i x less ∙ ap (λ (n : ℕ). take i ns ++ n ∷ []) (sym is))
