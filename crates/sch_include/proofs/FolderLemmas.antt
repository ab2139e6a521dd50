-- The folder part of a name.
use Rattle.std.proofs.Common.{◌≡◌, ◌≢◌, ℕ, zero, suc, ◌<◌, Bool, true, false, ◌||◌, List, [], ◌∷◌, length, get_or, take, refl, ap, arith, eqb, eqb-true}
use Rattle.std.specs.List.{list_any}
use Rattle.std.proofs.Math.Bool.{or-true}
use Rattle.sch_base.specs.Characters.{is_slash}
use Rattle.sch_include.specs.Includes.{folder_of}

-- no byte is a slash
abbrev pub Lacks : List ℕ → Type 0
Lacks xs = (i : ℕ) → i < length xs → get_or xs i 0 ≢ 47

lacks-any : (xs : List ℕ) → Lacks xs → list_any is_slash xs ≡ false
lacks-any [] h = refl
lacks-any (x ∷ xs) h = by (eqb x 47) refl (lacks-any xs (λ i less e. h (suc i) (omega arith) e))
  where
    by : (b : Bool) → eqb x 47 ≡ b → list_any is_slash xs ≡ false → (b || list_any is_slash xs) ≡ false
    by true e rest = absurd (h 0 (omega arith) (eqb-true x 47 e))
    by false e rest = rest

any-at : (xs : List ℕ) (k : ℕ) → k < length xs → get_or xs k 0 ≡ 47 → list_any is_slash xs ≡ true
any-at [] k less is = absurd (omega (arith, less))
any-at (x ∷ xs) zero less is = rw is refl
any-at (x ∷ xs) (suc k) less is = rw (any-at xs k (omega arith) is) (or-true (is_slash x))

pub folder-none : (name : List ℕ) → Lacks name → folder_of name ≡ []
folder-none [] h = refl
folder-none (b ∷ name) h = rw (lacks-any (b ∷ name) h) refl

-- the folder part ends with the last slash
pub folder-take : (name : List ℕ) (k : ℕ) → k < length name → get_or name k 0 ≡ 47 → ((i : ℕ) → k < i → i < length name → get_or name i 0 ≢ 47) → folder_of name ≡ take (suc k) name
folder-take [] k less is last = absurd (omega (arith, less))
folder-take (b ∷ name) zero less is last =
    rw (any-at (b ∷ name) zero less is) (ap (λ (l : List ℕ). b ∷ l) (folder-none name (λ i below. last (suc i) (omega arith) (omega arith))))
folder-take (b ∷ name) (suc k) less is last =
    rw (any-at (b ∷ name) (suc k) less is) (ap (λ (l : List ℕ). b ∷ l) (folder-take name k (omega arith) is (λ i after below. last (suc i) (omega arith) (omega arith))))
