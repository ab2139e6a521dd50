-- Items of sets that pass a test.
use Rattle.std.proofs.Common.{◌≡◌, ◌∙◌, Bool, true, false, ◌||◌, ◌&&◌, List, [], ◌∷◌, ◌++◌, refl, sym, ap, ap₂, ⊎_elim}
use Rattle.std.proofs.lemmas.Bool.{and_from, and_parts, false_from_ne_true, false≢true, or_cases, or_left, or_right}
use Rattle.std.proofs.lemmas.List.Folds.{list_any-append}
use Rattle.std.specs.declared.cmp.Ordering.{Ordering}
use Rattle.std.specs.Ordering.{eq_by_cmp, is_eq}
use Rattle.std.specs.Cmp.{IsTotalOrder, Equal-is, tied_itself}
use Rattle.std.specs.FinMap.{IsAntisymmetric}
use Rattle.std.specs.FinSet.{FinSet, contains, contains-empty, contains-from_list, contains-insert, contains-items, contains-retain, contains-union, empty, from_list, insert, items, retain, same_set, union}
use Rattle.std.specs.List.{flat_map, list_any}

-- two tests of which each holds where the other does are one
pub same_test : (a b : Bool) → (a ≡ true → b ≡ true) → (b ≡ true → a ≡ true) → a ≡ b
same_test true b there back = sym (there refl)
same_test false true there back = back refl
same_test false false there back = refl

or_moved : (a b c d : Bool) → ((a || b) || (c || d)) ≡ ((a || c) || (b || d))
or_moved true b true d = refl
or_moved true true false d = refl
or_moved true false false d = refl
or_moved false true true d = refl
or_moved false true false d = refl
or_moved false false c d = refl

pub any_or : {X : Type 0} (p q : X → Bool) (xs : List X) → list_any (λ x. p x || q x) xs ≡ (list_any p xs || list_any q xs)
any_or p q [] = refl
any_or p q (x ∷ xs) = ap (λ b. (p x || q x) || b) (any_or p q xs) ∙ or_moved (p x) (q x) (list_any p xs) (list_any q xs)

-- of lists joined, one by one
pub any_joined : {X Y : Type 0} (p : Y → Bool) (f : X → List Y) (xs : List X) → list_any p (flat_map f xs) ≡ list_any (λ x. list_any p (f x)) xs
any_joined p f [] = refl
any_joined p f (x ∷ xs) = list_any-append p (f x) (flat_map f xs) ∙ ap (λ b. list_any p (f x) || b) (any_joined p f xs)

-- an item of a list that passes a test
pub record Found {X : Type 0} (p found : X → Bool) : Type 0 where
  pub item : X
  pub there : found item ≡ true
  pub passes : p item ≡ true

module _ {K : Type 0} {R : K → K → Ordering} (o : IsTotalOrder R) (same : IsAntisymmetric R) where
  -- what ties with an item is it
  pub tied : (x y : K) → eq_by_cmp R x y ≡ true → x ≡ y
  tied x y is = same x y ((Equal-is (R x y)).0 is)

  module _ (p : K → Bool) where
    found : (xs : List K) → list_any p xs ≡ true → Found p (λ x. list_any (eq_by_cmp R x) xs)
    found [] h = absurd (false≢true h)
    found (x ∷ xs) h = by (p x) refl h (found xs)
      where
        by : (b : Bool) → p x ≡ b → (b || list_any p xs) ≡ true → (list_any p xs ≡ true → Found p (λ y. list_any (eq_by_cmp R y) xs)) →
            Found p (λ y. list_any (eq_by_cmp R y) (x ∷ xs))
        by true e h more =
            record { item = x; there = or_left (eq_by_cmp R x x) (list_any (eq_by_cmp R x) xs) (ap is_eq (tied_itself o x)); passes = e }
        by false e h more =
            let rest = more h in
            record {
              item = rest.item;
              there = or_right (eq_by_cmp R rest.item x) (list_any (eq_by_cmp R rest.item) xs) rest.there;
              passes = rest.passes;
            }

    -- an item that passes and ties with one of a list: that one passes
    pub listed : (x : K) → p x ≡ true → (ys : List K) → list_any (eq_by_cmp R x) ys ≡ true → list_any p ys ≡ true
    listed x passes [] h = absurd (false≢true h)
    listed x passes (y ∷ ys) h = by (eq_by_cmp R x y) refl h (listed x passes ys)
      where
        by : (b : Bool) → eq_by_cmp R x y ≡ b → (b || list_any (eq_by_cmp R x) ys) ≡ true →
            (list_any (eq_by_cmp R x) ys ≡ true → list_any p ys ≡ true) → list_any p (y ∷ ys) ≡ true
        by true e h more = or_left (p y) (list_any p ys) (ap p (sym (tied x y e)) ∙ passes)
        by false e h more = or_right (p y) (list_any p ys) (more h)

    -- a set has an item that passes where it holds one
    pub found_in : (s : FinSet R) → list_any p (items s) ≡ true → Found p (contains s)
    found_in s h =
        let one = found (items s) h in
        record { item = one.item; there = contains-items s one.item ∙ one.there; passes = one.passes }

    pub held_in : (s : FinSet R) (x : K) → contains s x ≡ true → p x ≡ true → list_any p (items s) ≡ true
    held_in s x there passes = listed x passes (items s) (sym (contains-items s x) ∙ there)

    -- an item fails where none of the set passes
    pub none_in : (s : FinSet R) (x : K) → list_any p (items s) ≡ false → contains s x ≡ true → p x ≡ false
    none_in s x none there = false_from_ne_true (p x) (λ passes. false≢true (sym none ∙ held_in s x there passes))

    pub any_empty : list_any p (items (empty {R = R})) ≡ false
    any_empty = false_from_ne_true (list_any p (items (empty {R = R}))) (λ h.
        let one = found_in (empty {R = R}) h in false≢true (sym (contains-empty R one.item) ∙ one.there))

    pub any_from_list : (xs : List K) → list_any p (items (from_list {R = R} xs)) ≡ list_any p xs
    any_from_list xs = same_test (list_any p (items (from_list {R = R} xs))) (list_any p xs)
        (λ h. let one = found_in (from_list {R = R} xs) h in listed one.item one.passes xs (sym (contains-from_list o xs one.item) ∙ one.there))
        (λ h. let one = found xs h in held_in (from_list {R = R} xs) one.item (contains-from_list o xs one.item ∙ one.there) one.passes)

    pub any_insert : (s : FinSet R) (x : K) → list_any p (items (insert s x)) ≡ (p x || list_any p (items s))
    any_insert s x = same_test (list_any p (items (insert s x))) (p x || list_any p (items s))
        (λ h.
        let one = found_in (insert s x) h in
        ⊎_elim (λ (e : eq_by_cmp R one.item x ≡ true). or_left (p x) (list_any p (items s)) (ap p (sym (tied one.item x e)) ∙ one.passes))
        (λ (e : contains s one.item ≡ true). or_right (p x) (list_any p (items s)) (held_in s one.item e one.passes))
        (or_cases (eq_by_cmp R one.item x) (contains s one.item) (sym (contains-insert o s x one.item) ∙ one.there)))
        (λ h. ⊎_elim (λ (e : p x ≡ true).
        held_in (insert s x) x (contains-insert o s x x ∙ or_left (eq_by_cmp R x x) (contains s x) (ap is_eq (tied_itself o x))) e)
        (λ (e : list_any p (items s) ≡ true).
        let one = found_in s e in
        held_in (insert s x) one.item (contains-insert o s x one.item ∙ or_right (eq_by_cmp R one.item x) (contains s one.item) one.there) one.passes)
        (or_cases (p x) (list_any p (items s)) h))

    pub any_union : (s t : FinSet R) → list_any p (items (union s t)) ≡ (list_any p (items s) || list_any p (items t))
    any_union s t = same_test (list_any p (items (union s t))) (list_any p (items s) || list_any p (items t))
        (λ h.
        let one = found_in (union s t) h in
        ⊎_elim (λ (e : contains s one.item ≡ true). or_left (list_any p (items s)) (list_any p (items t)) (held_in s one.item e one.passes))
        (λ (e : contains t one.item ≡ true). or_right (list_any p (items s)) (list_any p (items t)) (held_in t one.item e one.passes))
        (or_cases (contains s one.item) (contains t one.item) (sym (contains-union o s t one.item) ∙ one.there)))
        (λ h. ⊎_elim (λ (e : list_any p (items s) ≡ true).
        let one = found_in s e in
        held_in (union s t) one.item (contains-union o s t one.item ∙ or_left (contains s one.item) (contains t one.item) one.there) one.passes)
        (λ (e : list_any p (items t) ≡ true).
        let one = found_in t e in
        held_in (union s t) one.item (contains-union o s t one.item ∙ or_right (contains s one.item) (contains t one.item) one.there) one.passes)
        (or_cases (list_any p (items s)) (list_any p (items t)) h))

  -- what is left of a set holds the items of it that pass
  pub in_left : (stays : K → Bool) (s : FinSet R) (x : K) → contains (retain s stays) x ≡ (contains s x && stays x)
  in_left stays s x = contains-retain s stays x (λ y tie. ap stays (sym (same x y tie)))

  pub any_left : (p stays : K → Bool) (s : FinSet R) → list_any p (items (retain s stays)) ≡ list_any (λ x. p x && stays x) (items s)
  any_left p stays s = same_test (list_any p (items (retain s stays))) (list_any (λ x. p x && stays x) (items s))
      (λ h.
      let one = found_in p (retain s stays) h in
      let parts = and_parts (contains s one.item) (stays one.item) (sym (in_left stays s one.item) ∙ one.there) in
      held_in (λ x. p x && stays x) s one.item parts.0 (and_from (p one.item) (stays one.item) one.passes parts.1))
      (λ h.
      let one = found_in (λ x. p x && stays x) s h in
      let parts = and_parts (p one.item) (stays one.item) one.passes in
      held_in p (retain s stays) one.item (in_left stays s one.item ∙ and_from (contains s one.item) (stays one.item) one.there parts.1) parts.0)

  -- a set of which all stay
  pub all_left : (stays : K → Bool) (s : FinSet R) → ((x : K) → contains s x ≡ true → stays x ≡ true) → s ≡ retain s stays
  all_left stays s each = same_set o same s (retain s stays) (λ x. by x (contains s x) refl ∙ sym (in_left stays s x))
    where
      by : (x : K) (b : Bool) → contains s x ≡ b → contains s x ≡ (contains s x && stays x)
      by x true e = e ∙ sym (and_from (contains s x) (stays x) e (each x e))
      by x false e = e ∙ sym (ap (λ b. b && stays x) e)

  -- what two functions give alike of the items of a set
  joined_alike : {A : Type 0} (f g : K → List A) (xs : List K) → ((x : K) → list_any (eq_by_cmp R x) xs ≡ true → f x ≡ g x) →
      flat_map f xs ≡ flat_map g xs
  joined_alike f g [] each = refl
  joined_alike f g (x ∷ xs) each =
      ap₂ (λ l r. l ++ r) (each x (or_left (eq_by_cmp R x x) (list_any (eq_by_cmp R x) xs) (ap is_eq (tied_itself o x))))
      (joined_alike f g xs (λ y there. each y (or_right (eq_by_cmp R y x) (list_any (eq_by_cmp R y) xs) there)))

  pub all_joined_alike : {A : Type 0} (f g : K → List A) (s : FinSet R) → ((x : K) → contains s x ≡ true → f x ≡ g x) →
      flat_map f (items s) ≡ flat_map g (items s)
  all_joined_alike f g s each = joined_alike f g (items s) (λ x there. each x (contains-items s x ∙ there))
