-- Sets that lists stand for: the order of the items and repeats don't matter.
use Rattle.std.proofs.Common.{◌≡◌, ℕ, Bool, true, false, cond, ◌||◌, ◌&&◌, List, [], ◌∷◌, ◌++◌, refl, sym, ◌∙◌, ap, ap₂}
use Rattle.std.specs.Prelude.{Option, Some, None, Result, Ok, Err, OnOk, OnErr, slice_get}
use Rattle.std.specs.declared.cmp.Ordering.{Ordering}
use Rattle.std.specs.declared.cmp.Ordering.TheVariants.{Less, Equal, Greater}
use Rattle.std.specs.Ordering.{nat_cmp, eq_by_cmp, ordering_then}
use Rattle.std.specs.Cmp.{IsTotalOrder, Equal-is, nat_cmp_total, on_total, then_total}
use Rattle.std.specs.FinMap.{IsAntisymmetric, nat_cmp-IsAntisymmetric}
use Rattle.std.specs.FinSet.{FinSet, contains, from_list, from_list_push, insert, retain, union, contains-from_list, contains-retain, contains-union, same_set}
use Rattle.std.specs.List.{list_any, filter, dedup, dedup_from}
use Rattle.std.specs.List.Sorted.{IsPermutation}
use Rattle.std.proofs.lemmas.List.Folds.{list_any-append, list_any_at}
use Rattle.std.proofs.lemmas.List.Sorted.{list_any-IsPermutation}
use Rattle.std.proofs.lemmas.Option.{get_or_from_slice_get, slice_get_within}
use Rattle.xp_outcome.specs.declared.names_along.NamesAlong.{NamesAlong}
use Rattle.xp_outcome.specs.Recorded.{kind_number, node_of, axis_number, cell_cmp, names_cmp}
use Rattle.xp_outcome.specs.inner.RecordedCode.{cell_of, cell_again, axis_of, names_again}
use Rattle.xp_outcome.specs.inner.Settling.{IsExact, SameItems, is_item, is_item_at}

pub cell_cmp_total : IsTotalOrder cell_cmp
cell_cmp_total = then_total (on_total kind_number nat_cmp_total) (on_total node_of nat_cmp_total)

both_equal : (a b : Ordering) → ordering_then a b ≡ Equal → (a ≡ Equal) × (b ≡ Equal)
both_equal Less b h = cc
both_equal Equal b h = (refl, h)
both_equal Greater b h = cc

pub cell_cmp_antisymmetric : IsAntisymmetric cell_cmp
cell_cmp_antisymmetric x y h =
    let both = both_equal (nat_cmp (kind_number x) (kind_number y)) (nat_cmp (node_of x) (node_of y)) h in
    sym (cell_again x)
    ∙ ap (λ k. cell_of k (node_of x)) (nat_cmp-IsAntisymmetric _ _ both.0)
    ∙ ap (λ n. cell_of (kind_number y) n) (nat_cmp-IsAntisymmetric _ _ both.1)
    ∙ cell_again y

pub names_cmp_total : IsTotalOrder names_cmp
names_cmp_total = then_total (on_total (λ a. axis_number a.axis) nat_cmp_total) (on_total (λ a. a.node) nat_cmp_total)

pub names_cmp_antisymmetric : IsAntisymmetric names_cmp
names_cmp_antisymmetric x y h =
    let both = both_equal (nat_cmp (axis_number x.axis) (axis_number y.axis)) (nat_cmp x.node y.node) h in
    sym (names_again x)
    ∙ ap (λ k. record { axis = axis_of k; node = x.node }) (nat_cmp-IsAntisymmetric _ _ both.0)
    ∙ ap (λ n. record { axis = axis_of (axis_number y.axis); node = n }) (nat_cmp-IsAntisymmetric _ _ both.1)
    ∙ names_again y

-- names along axes that compare as equal are one
pub names_exact : IsExact (eq_by_cmp names_cmp)
names_exact x y h = names_cmp_antisymmetric x y ((Equal-is (names_cmp x y)).0 h)

or_again : (a b : Bool) → (a || b) ≡ (a || (a || b))
or_again true b = refl
or_again false b = refl

and_false : (a : Bool) → false ≡ (a && false)
and_false true = refl
and_false false = refl

or_moved : (a b c : Bool) → ((a || (b || false)) || c) ≡ (a || (b || c))
or_moved true b c = refl
or_moved false true c = refl
or_moved false false c = refl

or_nothing : (a : Bool) → a ≡ (a || false)
or_nothing true = refl
or_nothing false = refl

module _ {T : Type 0} (eq : T → T → Bool) (exact : IsExact eq) (p : T → Bool) where
  any_dedup_from : (k : T) (xs : List T) → list_any p (dedup_from eq k xs) ≡ (p k || list_any p xs)
  any_dedup_from k [] = refl
  any_dedup_from k (x ∷ xs) =
      elim (eq x k) as (λ b. eq x k ≡ b → list_any p (cond b (dedup_from eq k xs) (k ∷ dedup_from eq x xs)) ≡ (p k || (p x || list_any p xs))) [
        | true ↦ λ e. any_dedup_from k xs ∙ or_again (p k) _ ∙ ap (λ y. p k || (p y || list_any p xs)) (sym (exact x k e))
        | false ↦ λ _. ap (λ b. p k || b) (any_dedup_from x xs)
      ] refl

  -- equal neighbours are found alike
  any_dedup : (xs : List T) → list_any p (dedup eq xs) ≡ list_any p xs
  any_dedup [] = refl
  any_dedup (x ∷ xs) = any_dedup_from x xs

-- lists that hold the same items
module _ {T : Type 0} {eq : T → T → Bool} where
  -- a list that was sorted and freed of equal neighbours
  pub settled : (xs ys zs : List T) → IsPermutation xs ys → zs ≡ dedup eq ys → SameItems eq xs zs
  settled xs ys zs moved is = record {
    found = λ exact test.
        ap (λ items. list_any test items) is ∙ any_dedup eq exact test ys ∙ sym (list_any-IsPermutation test xs ys moved);
  }

  -- a test that an item passes finds its equal in the list
  found_already : (xs : List T) (place : ℕ) (x : T) (test : T → Bool) → IsExact eq → test x ≡ true →
      (held : Option T) → slice_get xs place ≡ held → is_item eq held x ≡ true → list_any test xs ≡ true
  found_already xs place x test exact passes None at is = cc
  found_already xs place x test exact passes (Some y) at is =
      list_any_at test xs place x (slice_get_within xs place y at) (ap test (get_or_from_slice_get xs place y x at ∙ exact y x is) ∙ passes)

  -- so that item at the end adds nothing to the answer
  adds_nothing : (xs : List T) (place : ℕ) (x : T) (test : T → Bool) → IsExact eq → is_item_at eq xs place x ≡ true →
      (b : Bool) → test x ≡ b → list_any test xs ≡ (list_any test xs || (b || false))
  adds_nothing xs place x test exact is false fails = or_nothing (list_any test xs)
  adds_nothing xs place x test exact is true passes =
      let found : list_any test xs ≡ true = found_already xs place x test exact passes (slice_get xs place) refl is in
      found ∙ sym (ap (λ b. b || true) found)

  -- an item that stands in the list already
  pub stands_already : (xs : List T) (place : ℕ) (x : T) → is_item_at eq xs place x ≡ true → SameItems eq (xs ++ x ∷ []) xs
  stands_already xs place x is = record {
    found = λ exact test. adds_nothing xs place x test exact is (test x) refl ∙ sym (list_any-append test xs (x ∷ []));
  }

  -- items of which the first stands in the list already, and the others too
  pub stand_already : (xs : List T) (place : ℕ) (x : T) (ms : List T) → is_item_at eq xs place x ≡ true → SameItems eq (xs ++ x ∷ ms) (xs ++ ms)
  stand_already xs place x ms is = record {
    found = λ exact test.
        list_any-append test xs ms
        ∙ ap (λ b. b || list_any test ms) ((stands_already xs place x is).found exact test ∙ list_any-append test xs (x ∷ []))
        ∙ or_moved (list_any test xs) (test x) (list_any test ms)
        ∙ sym (list_any-append test xs (x ∷ ms));
  }

  -- a list has its own items
  pub same_list : {xs ys : List T} → xs ≡ ys → SameItems eq xs ys
  same_list is = record { found = λ exact test. ap (list_any test) (sym is) }

  -- the same items by way of a third list
  pub same_through : {xs ys zs : List T} → SameItems eq xs ys → SameItems eq ys zs → SameItems eq xs zs
  same_through first then = record { found = λ exact test. then.found exact test ∙ first.found exact test }

module _ {K : Type 0} {R : K → K → Ordering} (o : IsTotalOrder R) (same : IsAntisymmetric R) where
  -- lists that hold the same items stand for the same set
  pub same_items : (eq : K → K → Bool) → IsExact eq → (xs ys : List K) → SameItems eq xs ys → from_list {R = R} ys ≡ from_list xs
  same_items eq exact xs ys alike =
      same_set o same _ _ (λ q. contains-from_list o ys q ∙ alike.found exact (eq_by_cmp R q) ∙ sym (contains-from_list o xs q))

  -- with more items at the end of one, the other stands for both sets together
  pub many_more : (eq : K → K → Bool) → IsExact eq → (xs ms ys : List K) → SameItems eq (xs ++ ms) ys →
      from_list {R = R} ys ≡ union (from_list xs) (from_list ms)
  many_more eq exact xs ms ys alike = same_set o same _ _ (λ q.
      contains-from_list o ys q
      ∙ alike.found exact (eq_by_cmp R q)
      ∙ list_any-append (eq_by_cmp R q) xs ms
      ∙ ap (λ b. b || list_any (eq_by_cmp R q) ms) (sym (contains-from_list o xs q))
      ∙ ap (λ b. contains (from_list {R = R} xs) q || b) (sym (contains-from_list o ms q))
      ∙ sym (contains-union o (from_list xs) (from_list ms) q))

  -- a set whose items were kept, and then got those of another
  pub joined_set : (eq : K → K → Bool) → IsExact eq → (xs ys ms zs : List K) {held more : FinSet R} → SameItems eq xs ys → SameItems eq (ys ++ ms) zs →
      from_list {R = R} xs ≡ held → from_list {R = R} ms ≡ more → from_list {R = R} zs ≡ union held more
  joined_set eq exact xs ys ms zs same_before joined first other =
      many_more eq exact ys ms zs joined ∙ ap₂ union (same_items eq exact xs ys same_before ∙ first) other

  -- with one item more at the end of one, the other stands for the set with that item
  pub one_more : (eq : K → K → Bool) → IsExact eq → (xs : List K) (x : K) (ys : List K) → SameItems eq (xs ++ x ∷ []) ys →
      from_list {R = R} ys ≡ insert (from_list xs) x
  one_more eq exact xs x ys alike = same_items eq exact (xs ++ x ∷ []) ys alike ∙ from_list_push o same xs x

module _ {K : Type 0} (p e : K → Bool) (b : Bool) (same : (x : K) → e x ≡ true → p x ≡ b) where
  any_filter : (xs : List K) → list_any e (filter p xs) ≡ (list_any e xs && b)
  any_filter [] = refl
  any_filter (x ∷ xs) =
      elim (p x) as (λ v. p x ≡ v → list_any e (cond v (x ∷ filter p xs) (filter p xs)) ≡ ((e x || list_any e xs) && b)) [
        | true ↦ λ px. elim (e x) as (λ w. e x ≡ w → (w || list_any e (filter p xs)) ≡ ((w || list_any e xs) && b)) [
          | true ↦ λ ex. sym px ∙ same x ex
          | false ↦ λ _. any_filter xs
        ] refl
        | false ↦ λ px. elim (e x) as (λ w. e x ≡ w → list_any e (filter p xs) ≡ ((w || list_any e xs) && b)) [
          | true ↦ λ ex. let none : b ≡ false = sym (same x ex) ∙ px in
              any_filter xs ∙ ap (λ v. list_any e xs && v) none ∙ sym (and_false (list_any e xs)) ∙ sym none
          | false ↦ λ _. any_filter xs
        ] refl
      ] refl

module _ {K : Type 0} {R : K → K → Ordering} (o : IsTotalOrder R) (same : IsAntisymmetric R) where
  -- the set of a filtered list
  pub from_list-filter : (p : K → Bool) (xs : List K) → from_list {R = R} (filter p xs) ≡ retain (from_list xs) p
  from_list-filter p xs = same_set o same _ _ (λ q.
      contains-from_list o (filter p xs) q
      ∙ any_filter p (eq_by_cmp R q) (p q) (λ x tie. ap p (sym (same q x ((Equal-is (R q x)).0 tie)))) xs
      ∙ ap (λ b. b && p q) (sym (contains-from_list o xs q))
      ∙ sym (contains-retain (from_list xs) p q (λ x tie. ap p (sym (same q x tie)))))

-- what follows where a call gave a value, and where it gave an error
pub on_ok : {A E P Q : Type 0} (r : Result A E) → (P → Q) → OnOk r P → OnOk r Q
on_ok (Ok v) next h = next h
on_ok (Err e) next h = tt

pub always_err : {A E Q : Type 0} (r : Result A E) → Q → OnErr r Q
always_err (Ok v) h = tt
always_err (Err e) h = h

pub on_err : {A E P Q : Type 0} (r : Result A E) → (P → Q) → OnErr r P → OnErr r Q
on_err (Ok v) next h = tt
on_err (Err e) next h = next h
