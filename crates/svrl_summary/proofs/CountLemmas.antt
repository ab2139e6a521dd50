-- Counted labels stand in the order of their bytes, each with how often it stands among all.
use Rattle.std.proofs.Common.{◌∙◌, ◌≡◌, ℕ, suc, ◌+◌, Bool, true, false, cond, List, [], ◌∷◌, Option, None, Some, unwrap_or, count_by, refl, ap, sym, subst, arith}
use Rattle.std.specs.BTreeMap.{insert_entry, is_at}
use Rattle.std.specs.Cmp.{IsTotalOrder}
use Rattle.std.specs.Cmp.Lexicographic.{nat_list_cmp_total}
use Rattle.std.specs.List.{AllByRecursion}
use Rattle.std.specs.List.Sorted.{IsStrictlySortedBy}
use Rattle.std.specs.Map.{keys_of, lookup}
use Rattle.std.specs.Ordering.{is_eq, match_ordering, ordering_reverse}
use Rattle.std.specs.Str.{bytes_eq}
use Rattle.std.specs.declared.cmp.Ordering.{Ordering}
use Rattle.std.specs.declared.cmp.Ordering.TheVariants.{Less, Equal, Greater}
use Rattle.std.proofs.lemmas.List.Sums.{sum_by-cons}
use Rattle.std.proofs.lemmas.Map.Lookups.{exact_bytes}
use Rattle.std.proofs.lemmas.Map.Text.{is_eq-slice_cmp}
use Rattle.svrl_summary.specs.Labels.{AreCounts, LabelsAreCounted, count_in, counted_behind, counted_too, text_cmp}

-- An entry put in its place

module _ {K X : Type 0} {R : K → K → Ordering} (total : IsTotalOrder R) (k : K) (v : X) where
  all-insert : (P : K → Type 0) (es : List (K × X)) → AllByRecursion P (keys_of es) → P k → AllByRecursion P (keys_of (insert_entry R es k v))
  all-insert P [] all one = (one, tt)
  all-insert P (e ∷ es) all one = by (R k e.0) (all-insert P es all.1 one)
    where
      by : (o : Ordering) → AllByRecursion P (keys_of (insert_entry R es k v)) →
          AllByRecursion P (keys_of (match_ordering o ((k, v) ∷ e ∷ es) ((e.0, v) ∷ es) (e ∷ insert_entry R es k v)))
      by Less rest = (one, all)
      by Equal rest = all
      by Greater rest = (all.0, rest)

  above : (x : K) (es : List (K × X)) → R k x ≡ Less → AllByRecursion (λ y. R x y ≡ Less) (keys_of es) → AllByRecursion (λ y. R k y ≡ Less) (keys_of es)
  above x [] less all = tt
  above x (e ∷ es) less all = (total.trans k x e.0 less all.0, above x es less all.1)

  sorted-insert : (es : List (K × X)) → IsStrictlySortedBy R (keys_of es) → IsStrictlySortedBy R (keys_of (insert_entry R es k v))
  unfolding IsStrictlySortedBy
  sorted-insert [] sorted = (tt, tt)
  sorted-insert (e ∷ es) sorted = by (R k e.0) refl (sorted-insert es sorted.1)
    where
      by : (o : Ordering) → R k e.0 ≡ o → IsStrictlySortedBy R (keys_of (insert_entry R es k v)) →
          IsStrictlySortedBy R (keys_of (match_ordering o ((k, v) ∷ e ∷ es) ((e.0, v) ∷ es) (e ∷ insert_entry R es k v)))
      by Less is rest = ((is, above e.0 es is sorted.0), sorted)
      by Equal is rest = sorted
      by Greater is rest =
          (all-insert (λ y. R e.0 y ≡ Less) es sorted.0 (total.antisymm e.0 k ∙ ap ordering_reverse is), rest)

-- A label counted once more

-- the label itself
here : (k : List ℕ) (v : ℕ) (es : List (List ℕ × ℕ)) → is_eq (text_cmp k k) ≡ true → lookup (is_at (text_cmp k)) (insert_entry text_cmp es k v) ≡ Some v
here k v [] same = ap (λ (b : Bool). cond b (Some v) None) same
here k v (e ∷ es) same = by (text_cmp k e.0) refl (here k v es same)
  where
    by : (o : Ordering) → text_cmp k e.0 ≡ o → lookup (is_at (text_cmp k)) (insert_entry text_cmp es k v) ≡ Some v →
        lookup (is_at (text_cmp k)) (match_ordering o ((k, v) ∷ e ∷ es) ((e.0, v) ∷ es) (e ∷ insert_entry text_cmp es k v)) ≡ Some v
    by Less is rest = ap (λ (b : Bool). cond b (Some v) (lookup (is_at (text_cmp k)) (e ∷ es))) same
    by Equal is rest = ap (λ (o : Ordering). cond (is_eq o) (Some v) (lookup (is_at (text_cmp k)) es)) is
    by Greater is rest = ap (λ (o : Ordering). cond (is_eq o) (Some e.1) (lookup (is_at (text_cmp k)) (insert_entry text_cmp es k v))) is ∙ rest

-- another one
elsewhere : (q k : List ℕ) (v : ℕ) (es : List (List ℕ × ℕ)) → is_eq (text_cmp q k) ≡ false → lookup (is_at (text_cmp q)) (insert_entry text_cmp es k v) ≡ lookup (is_at (text_cmp q)) es
elsewhere q k v [] other = ap (λ (b : Bool). cond b (Some v) None) other
elsewhere q k v (e ∷ es) other = by (text_cmp k e.0) refl (elsewhere q k v es other)
  where
    by : (o : Ordering) → text_cmp k e.0 ≡ o → lookup (is_at (text_cmp q)) (insert_entry text_cmp es k v) ≡ lookup (is_at (text_cmp q)) es →
        lookup (is_at (text_cmp q)) (match_ordering o ((k, v) ∷ e ∷ es) ((e.0, v) ∷ es) (e ∷ insert_entry text_cmp es k v)) ≡ lookup (is_at (text_cmp q)) (e ∷ es)
    by Less is rest = ap (λ (b : Bool). cond b (Some v) (lookup (is_at (text_cmp q)) (e ∷ es))) other
    by Equal is rest =
        let at : is_eq (text_cmp q e.0) ≡ false = subst (λ (x : List ℕ). is_eq (text_cmp q x) ≡ false) (exact_bytes k e.0 is) other in
        ap (λ (b : Bool). cond b (Some v) (lookup (is_at (text_cmp q)) es)) at ∙ sym (ap (λ (b : Bool). cond b (Some e.1) (lookup (is_at (text_cmp q)) es)) at)
    by Greater is rest = ap (λ (found : Option ℕ). cond (is_eq (text_cmp q e.0)) (Some e.1) found) rest

-- a label equals itself
itself : (k : List ℕ) → is_eq (text_cmp k k) ≡ true
itself k = by (text_cmp k k) (nat_list_cmp_total.antisymm k k)
  where
    by : (o : Ordering) → o ≡ ordering_reverse o → is_eq o ≡ true
    by Less turned = absurd (cc)
    by Equal turned = refl
    by Greater turned = absurd (cc)

too : (q k : List ℕ) (es : List (List ℕ × ℕ)) → count_in (counted_too es k) q ≡ count_in es q + cond (bytes_eq q k) 1 0
too q k es = by (bytes_eq q k) (sym (is_eq-slice_cmp q k))
  where
    by : (b : Bool) → b ≡ is_eq (text_cmp q k) → count_in (counted_too es k) q ≡ count_in es q + cond b 1 0
    by true is =
        let same : q ≡ k = exact_bytes q k (equal (text_cmp q k) (sym is)) in
        subst (λ (x : List ℕ). count_in (counted_too es k) x ≡ count_in es x + 1) (sym same)
        (ap (λ (found : Option ℕ). unwrap_or found 0) (here k (suc (count_in es k)) es (itself k)) ∙ omega arith)
      where
        equal : (o : Ordering) → is_eq o ≡ true → o ≡ Equal
        equal Less so = absurd (cc)
        equal Equal so = refl
        equal Greater so = absurd (cc)
    by false is = ap (λ (found : Option ℕ). unwrap_or found 0) (elsewhere q k (suc (count_in es k)) es (sym is)) ∙ omega arith

-- Labels counted

behind-sorted : (es : List (List ℕ × ℕ)) (labels : List (List ℕ)) → IsStrictlySortedBy text_cmp (keys_of es) → IsStrictlySortedBy text_cmp (keys_of (counted_behind es labels))
behind-sorted es [] sorted = sorted
behind-sorted es (label ∷ labels) sorted = behind-sorted (counted_too es label) labels (sorted-insert nat_list_cmp_total label (suc (count_in es label)) es sorted)

behind-counts : (q : List ℕ) (es : List (List ℕ × ℕ)) (labels : List (List ℕ)) → count_in (counted_behind es labels) q ≡ count_in es q + count_by (bytes_eq q) labels
behind-counts q es [] = omega arith
behind-counts q es (label ∷ labels) =
    omega (arith, behind-counts q (counted_too es label) labels, too q label es, sum_by-cons (λ (other : List ℕ). cond (bytes_eq q other) 1 0) label labels)

nothing-sorted : IsStrictlySortedBy text_cmp (keys_of {X = ℕ} [])
unfolding IsStrictlySortedBy
nothing-sorted = tt

pub labels-are-counted : LabelsAreCounted
labels-are-counted labels = record { in_order = behind-sorted [] labels nothing-sorted; each = λ label. omega (arith, behind-counts label [] labels) }
