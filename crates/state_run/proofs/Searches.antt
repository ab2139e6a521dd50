-- Searches in lists: whether an item passes, and the first that gives something.
use Rattle.std.proofs.Common.{◌≡◌, ◌∙◌, ℕ, ◌+◌, ◌<◌, ◌≤◌, ◌==◌, Bool, true, false, ◌||◌, List, [], ◌∷◌, length, drop, slice_index_or, Option, None, Some, refl, sym, ap}
use Rattle.std.proofs.Math.Bool.{or_assoc}
use Rattle.std.proofs.lemmas.Bool.{eq-eqb, or_left, or_right}
use Rattle.std.proofs.lemmas.List.{at_drop_more, at_drop_all}
use Rattle.std.specs.List.{list_any}
use Rattle.std.specs.Option.{option_or}
use Rattle.doc_tree.specs.Lists.{mem}
use Rattle.sch_units.specs.Validity.{first_with}

-- whether one is found from a place on
any_from : {X : Type 0} (p : X → Bool) (xs : List X) (i : ℕ) (x d : X) → i < length xs → slice_index_or xs i d ≡ x →
    list_any p (drop i xs) ≡ (p x || list_any p (drop (i + 1) xs))
any_from p xs i x d within is =
    at_drop_more (list_any p) xs i d within ∙ ap (λ y. p y || list_any p (drop (i + 1) xs)) is

-- what was found so far, with this one
pub found_on : {X : Type 0} (p : X → Bool) (xs : List X) (i : ℕ) (x d : X) (was now all : Bool) → i < length xs → slice_index_or xs i d ≡ x →
    now ≡ (was || p x) → (was || list_any p (drop i xs)) ≡ all → (now || list_any p (drop (i + 1) xs)) ≡ all
found_on p xs i x d was now all within is now_is so_far =
    ap (λ (b : Bool). b || list_any p (drop (i + 1) xs)) now_is
    ∙ or_assoc was (p x) (list_any p (drop (i + 1) xs))
    ∙ ap (λ (b : Bool). was || b) (sym (any_from p xs i x d within is))
    ∙ so_far

-- past the end all is found
pub found_all : {X : Type 0} (p : X → Bool) (xs : List X) (i : ℕ) (was all : Bool) → length xs ≤ i → (was || list_any p (drop i xs)) ≡ all → was ≡ all
found_all p xs i true all past so_far = so_far
found_all p xs i false all past so_far = sym (at_drop_all (list_any p) xs i past) ∙ so_far

-- the first that gives something, from a place on
with_from : {X B : Type 0} (f : X → Option B) (xs : List X) (i : ℕ) (x d : X) → i < length xs → slice_index_or xs i d ≡ x →
    first_with f (drop i xs) ≡ option_or (f x) (first_with f (drop (i + 1) xs))
with_from f xs i x d within is =
    at_drop_more (first_with f) xs i d within ∙ ap (λ y. option_or (f y) (first_with f (drop (i + 1) xs))) is

-- where it isn't this one, the search goes on
pub with_on : {X B : Type 0} (f : X → Option B) (xs : List X) (i : ℕ) (x d : X) (all : Option B) → i < length xs → slice_index_or xs i d ≡ x →
    f x ≡ None →
    first_with f (drop i xs) ≡ all → first_with f (drop (i + 1) xs) ≡ all
with_on f xs i x d all within is none so_far =
    sym (with_from f xs i x d within is ∙ ap (λ o. option_or o (first_with f (drop (i + 1) xs))) none) ∙ so_far

-- this one ends it
pub with_here : {X B : Type 0} (f : X → Option B) (xs : List X) (i : ℕ) (x d : X) (y : B) (all : Option B) → i < length xs →
    slice_index_or xs i d ≡ x → f x ≡ Some y →
    first_with f (drop i xs) ≡ all → Some y ≡ all
with_here f xs i x d y all within is some so_far =
    sym (with_from f xs i x d within is ∙ ap (λ o. option_or o (first_with f (drop (i + 1) xs))) some) ∙ so_far

-- past the end there is none
pub with_past : {X B : Type 0} (f : X → Option B) (xs : List X) (i : ℕ) (all : Option B) → length xs ≤ i → first_with f (drop i xs) ≡ all → None ≡ all
with_past f xs i all past so_far = sym (at_drop_all (first_with f) xs i past) ∙ so_far

-- what is the same for each that stands in a list is the same for the list
pub with_alike : {B : Type 0} (f g : ℕ → Option B) (ns : List ℕ) → ((n : ℕ) → mem n ns ≡ true → f n ≡ g n) → first_with f ns ≡ first_with g ns
with_alike f g [] alike = refl
with_alike f g (n ∷ ns) alike =
    ap (λ o. option_or o (first_with f ns)) (alike n (or_left (n == n) (mem n ns) (eq-eqb n n refl)))
    ∙ ap (option_or (g n)) (with_alike f g ns (λ m there. alike m (or_right (m == n) (mem m ns) there)))

pub any_alike : (p q : ℕ → Bool) (ns : List ℕ) → ((n : ℕ) → mem n ns ≡ true → p n ≡ q n) → list_any p ns ≡ list_any q ns
any_alike p q [] alike = refl
any_alike p q (n ∷ ns) alike =
    ap (λ (b : Bool). b || list_any p ns) (alike n (or_left (n == n) (mem n ns) (eq-eqb n n refl)))
    ∙ ap (λ (b : Bool). q n || b) (any_alike p q ns (λ m there. alike m (or_right (m == n) (mem m ns) there)))
