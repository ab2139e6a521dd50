-- Texts cut at a byte.
use Rattle.std.proofs.Common.{◌∙◌, ◌≡◌, ℕ, suc, ◌+◌, Bool, true, false, cond, not, ◌||◌, List, [], ◌∷◌, ◌++◌, length, take, drop, append-nil, add-one, refl, ap, sym, subst, arith}
use Rattle.std.specs.List.{after_first, before_first, flat_map, list_any, onto_first, position_or_len, slice_split}
use Rattle.sch_base.specs.Characters.{is_slash}

module _ {A : Type 0} (p : A → Bool) where
  both_fail : (a b : Bool) → (a || b) ≡ false → (a ≡ false) × (b ≡ false)
  both_fail true b is = absurd (cc)
  both_fail false b is = (refl, is)

  -- the first that passes stands behind those that do not
  place : (xs : List A) (y : A) (ys : List A) → list_any p xs ≡ false → p y ≡ true → position_or_len p (xs ++ y ∷ ys) ≡ length xs
  place [] y ys none is = ap (λ (b : Bool). cond (not b) (1 + position_or_len p ys) 0) is
  place (x ∷ xs) y ys none is =
      ap (λ (b : Bool). cond (not b) (1 + position_or_len p (xs ++ y ∷ ys)) 0) (both_fail (p x) (list_any p xs) none).0
      ∙ omega (arith, place xs y ys (both_fail (p x) (list_any p xs) none).1 is)

  pub passes : (xs : List A) (y : A) (ys : List A) → p y ≡ true → list_any p (xs ++ y ∷ ys) ≡ true
  passes [] y ys is = ap (λ (b : Bool). b || list_any p ys) is
  passes (x ∷ xs) y ys is = by (p x) (passes xs y ys is)
    where
      by : (b : Bool) → list_any p (xs ++ y ∷ ys) ≡ true → (b || list_any p (xs ++ y ∷ ys)) ≡ true
      by true rest = refl
      by false rest = rest

  take-front : (xs ys : List A) → take (length xs) (xs ++ ys) ≡ xs
  take-front [] ys = refl
  take-front (x ∷ xs) ys = ap (λ (zs : List A). x ∷ zs) (take-front xs ys)

  drop-front : (xs : List A) (y : A) (ys : List A) → drop (suc (length xs)) (xs ++ y ∷ ys) ≡ ys
  drop-front [] y ys = refl
  drop-front (x ∷ xs) y ys = drop-front xs y ys

  pub before : (xs : List A) (y : A) (ys : List A) → list_any p xs ≡ false → p y ≡ true → before_first p (xs ++ y ∷ ys) ≡ xs
  before xs y ys none is = ap (λ (n : ℕ). take n (xs ++ y ∷ ys)) (place xs y ys none is) ∙ take-front xs (y ∷ ys)

  pub after : (xs : List A) (y : A) (ys : List A) → list_any p xs ≡ false → p y ≡ true → after_first p (xs ++ y ∷ ys) ≡ ys
  after xs y ys none is =
      ap (λ (n : ℕ). drop (n + 1) (xs ++ y ∷ ys)) (place xs y ys none is)
      ∙ ap (λ (n : ℕ). drop n (xs ++ y ∷ ys)) (add-one (length xs)) ∙ drop-front xs y ys

  split_none : (xs : List A) → list_any p xs ≡ false → slice_split p xs ≡ xs ∷ []
  split_none [] none = refl
  split_none (x ∷ xs) none =
      ap (λ (b : Bool). cond b ([] ∷ slice_split p xs) (onto_first x (slice_split p xs))) (both_fail (p x) (list_any p xs) none).0
      ∙ ap (onto_first x) (split_none xs (both_fail (p x) (list_any p xs) none).1)

  split_at : (xs : List A) (y : A) (ys : List A) → list_any p xs ≡ false → p y ≡ true → slice_split p (xs ++ y ∷ ys) ≡ xs ∷ slice_split p ys
  split_at [] y ys none is = ap (λ (b : Bool). cond b ([] ∷ slice_split p ys) (onto_first y (slice_split p ys))) is
  split_at (x ∷ xs) y ys none is =
      ap (λ (b : Bool). cond b ([] ∷ slice_split p (xs ++ y ∷ ys)) (onto_first x (slice_split p (xs ++ y ∷ ys)))) (both_fail (p x) (list_any p xs) none).0
      ∙ ap (onto_first x) (split_at xs y ys (both_fail (p x) (list_any p xs) none).1 is)

  pub lacks-append : (xs ys : List A) → list_any p xs ≡ false → list_any p ys ≡ false → list_any p (xs ++ ys) ≡ false
  lacks-append [] ys none none_2 = none_2
  lacks-append (x ∷ xs) ys none none_2 =
      ap (λ (b : Bool). b || list_any p (xs ++ ys)) (both_fail (p x) (list_any p xs) none).0 ∙ lacks-append xs ys (both_fail (p x) (list_any p xs) none).1 none_2

-- texts with a slash in front of each
abbrev pub slashed : List (List ℕ) → List ℕ
slashed texts = flat_map (λ text. 47 ∷ text) texts

-- none of them has a slash
abbrev pub NoneSlashed : List (List ℕ) → Type 0
NoneSlashed [] = Unit {0}
NoneSlashed (text ∷ texts) = (list_any is_slash text ≡ false) × NoneSlashed texts

-- so they are cut apart again
pub cut_apart : (text : List ℕ) (texts : List (List ℕ)) → list_any is_slash text ≡ false → NoneSlashed texts → slice_split is_slash (text ++ slashed texts) ≡ text ∷ texts
cut_apart text [] none all = ap (slice_split is_slash) (append-nil text) ∙ split_none is_slash text none
cut_apart text (next ∷ texts) none all = split_at is_slash text 47 (next ++ slashed texts) none refl ∙ ap (λ (ts : List (List ℕ)). text ∷ ts) (cut_apart next texts all.0 all.1)

pub none-last : (texts : List (List ℕ)) (text : List ℕ) → NoneSlashed texts → list_any is_slash text ≡ false → NoneSlashed (texts ++ text ∷ [])
none-last [] text all none = (none, tt)
none-last (first ∷ texts) text all none = (all.0, none-last texts text all.1 none)
