-- Where the front of a text ends whose bytes pass a test.
use Rattle.std.proofs.Common.{◌≡◌, ℕ, ◌≤◌, Bool, true, false, not, ◌&&◌, ◌==◌, List, [], ◌∷◌, ◌++◌, length, refl, ap, ap₂, ◌∙◌, arith}
use Rattle.std.specs.List.{list_all}
use Rattle.std.proofs.lemmas.Bool.Decides.{nat_tests}

pub both : (a b : Bool) → (a && b) ≡ true → (a ≡ true) × (b ≡ true)
both true b h = (refl, h)
both false b h = absurd (cc)

pub is_equal : (a b : ℕ) → (a == b) ≡ true → a ≡ b
is_equal a b e = grind (arith, nat_tests)

pub and-true : (a b : Bool) → a ≡ true → b ≡ true → (a && b) ≡ true
and-true true b h k = k
and-true false b h k = absurd (cc)

-- the first byte, if there is one, fails the test
abbrev pub ends_with : (ℕ → Bool) → List ℕ → Bool
ends_with p [] = true
ends_with p (b ∷ r) = not (p b)

abbrev pub head_or : ℕ → List ℕ → ℕ
head_or d [] = d
head_or d (b ∷ r) = b

abbrev pub tail_of : List ℕ → List ℕ
tail_of [] = []
tail_of (b ∷ r) = r

pub same-heads : (a b : ℕ) (xs ys : List ℕ) → a ∷ xs ≡ b ∷ ys → a ≡ b
same-heads a b xs ys e = ap (head_or 0) e

pub same-tails : (a b : ℕ) (xs ys : List ℕ) → a ∷ xs ≡ b ∷ ys → xs ≡ ys
same-tails a b xs ys e = ap tail_of e

pub not-passing : (a : Bool) → not a ≡ true → a ≡ false
not-passing true h = absurd (cc)
not-passing false h = refl

-- a front whose bytes pass ends where a byte fails
pub front-ends : (p : ℕ → Bool) (w r more after : List ℕ) → more ++ after ≡ w ++ r → list_all p more ≡ true → ends_with p r ≡ true → length more ≤ length w
front-ends p w r [] after e passes ends = omega arith
front-ends p [] r (m ∷ ms) after e passes ends =
    let stop : not (p m) ≡ true = ap (ends_with p) e ∙ ends in
    let here = both (p m) (list_all p ms) passes in
    absurd (let fails = not-passing (p m) stop in cc)
front-ends p (x ∷ w) r (m ∷ ms) after e passes ends =
    let rest = front-ends p w r ms after (same-tails m x (ms ++ after) (w ++ r) e) (both (p m) (list_all p ms) passes).1 ends in
    omega (arith, rest)

-- two fronts whose bytes pass, each before a byte that fails
pub same-fronts : (p : ℕ → Bool) (w r more after : List ℕ) (c : ℕ) → more ++ (c ∷ after) ≡ w ++ r → list_all p more ≡ true → list_all p w ≡ true →
    p c ≡ false → ends_with p r ≡ true → (more ≡ w) × (c ∷ after ≡ r)
same-fronts p [] r [] after c e passes all fails ends = (refl, e)
same-fronts p [] r (m ∷ ms) after c e passes all fails ends =
    let stop : not (p m) ≡ true = ap (ends_with p) e ∙ ends in
    let here = both (p m) (list_all p ms) passes in
    absurd (let none = not-passing (p m) stop in cc)
same-fronts p (x ∷ w) r [] after c e passes all fails ends =
    let here = both (p x) (list_all p w) all in
    let same : p c ≡ p x = ap p (same-heads c x after (w ++ r) e) in
    absurd (let x_passes = here.0 in cc)
same-fronts p (x ∷ w) r (m ∷ ms) after c e passes all fails ends =
    let rest = same-fronts p w r ms after c (same-tails m x (ms ++ (c ∷ after)) (w ++ r) e)
    (both (p m) (list_all p ms) passes).1 (both (p x) (list_all p w) all).1 fails ends in
    (ap₂ (λ a xs. a ∷ xs) (same-heads m x (ms ++ (c ∷ after)) (w ++ r) e) rest.0, rest.1)
