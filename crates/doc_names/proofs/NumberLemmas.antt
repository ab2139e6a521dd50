-- Items put into a table that keeps each once, and their numbers.
use Rattle.std.proofs.Common.{◌≡◌, ◌≢◌, get_or, ℕ, ◌+◌, ◌<◌, suc, zero, Bool, true, false, cond, not, ◌||◌, List, [], ◌∷◌, ◌++◌, ◌⊎◌, map, length, take, slice_get, None, Some, refl, sym, ap, ◌∙◌, subst, inl, inr, ⊎_elim, true≢false, arith, nat_lt, ltb-true, one-add}
use Rattle.std.specs.List.{list_any, position_or_len, position}
use Rattle.indexmap.specs.IndexSet.{insert_key}
use Rattle.doc_names.specs.Numbering.{EachOnce, Numbered}

get-end : {A : Type 0} (xs : List A) (x : A) → slice_get (xs ++ x ∷ []) (length xs) ≡ Some x
get-end [] x = refl
get-end (y ∷ xs) x = get-end xs x

-- the items before one that is put at the end stay
pub get-front : {A : Type 0} (xs : List A) (y d : A) (k : ℕ) → k ≢ length xs → get_or (xs ++ y ∷ []) k d ≡ get_or xs k d
get-front [] y d zero ne = absurd (ne refl)
get-front [] y d (suc k) ne = refl
get-front (x ∷ xs) y d zero ne = refl
get-front (x ∷ xs) y d (suc k) ne = get-front xs y d k (λ e. ne (ap suc e))

-- a place in a list with one item more is a place of the list, or its end
get-more : {A : Type 0} (xs : List A) (x y : A) (i : ℕ) → slice_get (xs ++ x ∷ []) i ≡ Some y → (slice_get xs i ≡ Some y) ⊎ ((i ≡ length xs) × (x ≡ y))
get-more [] x y zero h = inr (refl, (cc))
get-more [] x y (suc i) h = absurd (cc)
get-more (z ∷ xs) x y zero h = inl h
get-more (z ∷ xs) x y (suc i) h =
    ⊎_elim (λ (k : slice_get xs i ≡ Some y). inl k) (λ (k : (i ≡ length xs) × (x ≡ y)). inr (ap suc k.0, k.1)) (get-more xs x y i h)

pub once-more : {A : Type 0} (xs : List A) (x : A) → EachOnce xs → ((i : ℕ) → slice_get xs i ≡ Some x → ⊥) → EachOnce (xs ++ x ∷ [])
once-more xs x once new i j y hi hj =
    ⊎_elim
    (λ (a : slice_get xs i ≡ Some y). ⊎_elim (λ (b : slice_get xs j ≡ Some y). once i j y a b)
    (λ (b : (j ≡ length xs) × (x ≡ y)). absurd (new i (a ∙ ap Some (sym b.1)))) (get-more xs x y j hj))
    (λ (a : (i ≡ length xs) × (x ≡ y)). ⊎_elim (λ (b : slice_get xs j ≡ Some y). absurd (new j (b ∙ ap Some (sym a.1))))
    (λ (b : (j ≡ length xs) × (x ≡ y)). a.0 ∙ sym b.0) (get-more xs x y j hj))
    (get-more xs x y i hi)

-- what stands among the first items stands in the list, so that each of them stands once
get-taken : {A : Type 0} (n : ℕ) (xs : List A) (i : ℕ) (x : A) → slice_get (take n xs) i ≡ Some x → slice_get xs i ≡ Some x
get-taken zero xs i x h = absurd (cc)
get-taken (suc n) [] i x h = absurd (cc)
get-taken (suc n) (y ∷ xs) zero x h = h
get-taken (suc n) (y ∷ xs) (suc i) x h = get-taken n xs i x h

pub once-taken : {A : Type 0} (n : ℕ) (xs : List A) → EachOnce xs → EachOnce (take n xs)
once-taken n xs once i j x hi hj = once i j x (get-taken n xs i x hi) (get-taken n xs j x hj)

pub map-push : {A B : Type 0} (f : A → B) (xs : List A) (x : A) → map f (xs ++ x ∷ []) ≡ map f xs ++ f x ∷ []
map-push f [] x = refl
map-push f (y ∷ xs) x = ap (λ l. f y ∷ l) (map-push f xs x)

pub map-length : {A B : Type 0} (f : A → B) (xs : List A) → length (map f xs) ≡ length xs
map-length f [] = refl
map-length f (y ∷ xs) = ap suc (map-length f xs)

-- what stands at a place of a list, each item of which was turned into another
pub map-some : {A B : Type 0} (f : A → B) (xs : List A) (i : ℕ) (d : B) (x : A) → slice_get xs i ≡ Some x → get_or (map f xs) i d ≡ f x
map-some f [] i d x h = absurd (cc)
map-some f (y ∷ xs) zero d x h = let e : y ≡ x = (cc) in ap f e
map-some f (y ∷ xs) (suc i) d x h = map-some f xs i d x h

pub map-none : {A B : Type 0} (f : A → B) (xs : List A) (i : ℕ) (d : B) → slice_get xs i ≡ None → get_or (map f xs) i d ≡ d
map-none f [] zero d h = refl
map-none f [] (suc i) d h = refl
map-none f (y ∷ xs) zero d h = absurd (cc)
map-none f (y ∷ xs) (suc i) d h = map-none f xs i d h

module _ {A B : Type 0} (test : A → Bool) (f : A → B) (b : B) (sound : (x : A) → test x ≡ true → f x ≡ b) (complete : (x : A) → f x ≡ b → test x ≡ true) where
  -- where the test passes somewhere, the item stands at the first such place
  pub found : (xs : List A) → list_any test xs ≡ true → slice_get (map f xs) (position_or_len test xs) ≡ Some b
  found [] h = absurd (true≢false (sym h))
  found (x ∷ xs) h = by (test x) refl h (found xs)
    where
      by : (t : Bool) → test x ≡ t → (t || list_any test xs) ≡ true → (list_any test xs ≡ true → slice_get (map f xs) (position_or_len test xs) ≡ Some b)
          → slice_get (f x ∷ map f xs) (cond (not t) (1 + position_or_len test xs) 0) ≡ Some b
      by true e h rest = ap Some (sound x e)
      by false e h rest = rw one-add (rest h)

  -- where it passes nowhere, the item is new
  pub missing : (xs : List A) → list_any test xs ≡ false → (i : ℕ) → slice_get (map f xs) i ≡ Some b → ⊥
  missing [] h i k = absurd (cc)
  missing (x ∷ xs) h i k = by (test x) refl h i k (missing xs)
    where
      by : (t : Bool) → test x ≡ t → (t || list_any test xs) ≡ false → (i : ℕ) → slice_get (f x ∷ map f xs) i ≡ Some b
          → (list_any test xs ≡ false → (i : ℕ) → slice_get (map f xs) i ≡ Some b → ⊥) → ⊥
      by true e h i k rest = true≢false h
      by false e h zero k rest = true≢false (sym (complete x (let same : f x ≡ b = (cc) in same)) ∙ e)
      by false e h (suc i) k rest = rest h i k

  pub past-all : (xs : List A) → list_any test xs ≡ false → position_or_len test xs ≡ length xs
  past-all [] h = refl
  past-all (x ∷ xs) h = by (test x) refl h (past-all xs)
    where
      by : (t : Bool) → test x ≡ t → (t || list_any test xs) ≡ false → (list_any test xs ≡ false → position_or_len test xs ≡ length xs)
          → cond (not t) (1 + position_or_len test xs) 0 ≡ suc (length xs)
      by true e h rest = absurd (true≢false h)
      by false e h rest = rw one-add (ap suc (rest h))

  -- the place that a search gives
  pub searched : (xs : List A) (i : ℕ) → position test xs ≡ Some i → slice_get (map f xs) i ≡ Some b
  searched xs i h = by (list_any test xs) refl
    where
      by : (t : Bool) → list_any test xs ≡ t → slice_get (map f xs) i ≡ Some b
      by true e = let p : position_or_len test xs ≡ i = inner (nat_lt (position_or_len test xs) (length xs)) h in subst (λ k. slice_get (map f xs) k ≡ Some b) p (found xs e)
        where
          inner : (t : Bool) → cond t (Some (position_or_len test xs)) None ≡ Some i → position_or_len test xs ≡ i
          inner true e = cc
          inner false e = absurd (cc)
      by false e = absurd (inner (nat_lt (position_or_len test xs) (length xs)) refl h)
        where
          inner : (t : Bool) → nat_lt (position_or_len test xs) (length xs) ≡ t → cond t (Some (position_or_len test xs)) None ≡ Some i → ⊥
          inner true g h = let k : position_or_len test xs < length xs = ltb-true (position_or_len test xs) (length xs) g in absurd (omega (arith, past-all xs e))
          inner false g h = cc

module _ {A B : Type 0} (eq : A → A → Bool) (f : A → B) (a : A) (sound : (x : A) → eq a x ≡ true → f x ≡ f a) (complete : (x : A) → f x ≡ f a → eq a x ≡ true) where
  -- an item put in has its number, and each stays once
  pub inserted : (xs : List A) → Numbered (map f xs) (map f (insert_key eq xs a)) (f a) (position_or_len (eq a) xs)
  inserted xs = by (list_any (eq a) xs) refl
    where
      by : (t : Bool) → list_any (eq a) xs ≡ t → Numbered (map f xs) (map f (insert_key eq xs a)) (f a) (position_or_len (eq a) xs)
      by true e = rw e (record { given = found (eq a) f (f a) sound complete xs e; added = inl refl })
      by false e = rw (e, map-push f xs a, past-all (eq a) f (f a) sound complete xs e)
          (record {
            given = subst (λ k. slice_get (map f xs ++ f a ∷ []) k ≡ Some (f a)) (map-length f xs) (get-end (map f xs) (f a));
            added = inr (refl, sym (map-length f xs));
          })

  pub inserted-once : (xs : List A) → EachOnce (map f xs) → EachOnce (map f (insert_key eq xs a))
  inserted-once xs once = by (list_any (eq a) xs) refl
    where
      by : (t : Bool) → list_any (eq a) xs ≡ t → EachOnce (map f (insert_key eq xs a))
      by true e = rw e once
      by false e = rw (e, map-push f xs a) (once-more (map f xs) (f a) once (missing (eq a) f (f a) sound complete xs e))
