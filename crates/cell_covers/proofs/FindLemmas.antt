-- Numbers that rise, and what a search finds among them.
use Rattle.std.proofs.Common.{◌≡◌, ℕ, ◌<◌, ◌≤◌, ◌==◌, suc, Bool, true, false, List, [], ◌∷◌, length, get_or, nat_eq, Result, Ok, Err, refl, sym, ◌∙◌, ⊎_elim, arith}
use Rattle.std.specs.Prelude.{is_ok}
use Rattle.std.specs.List.Sorted.{IsBinarySearchResult, IsNonDecreasing}
use Rattle.std.specs.Ordering.{nat_cmp}
use Rattle.std.specs.Result.{MatchResult}
use Rattle.std.proofs.lemmas.Bool.{cases_lt, eq-eqb, eqb-true, false_from_ne_true, false≢true, or_cases}
use Rattle.std.proofs.lemmas.List.Folds.{list_any_at}
use Rattle.std.proofs.lemmas.List.Sorted.{searched}
use Rattle.doc_tree.specs.Lists.{mem}
use Rattle.cell_covers.proofs.SetLemmas.{mem_any}

-- a number that stands in a list has a place there
mem_at : (n : ℕ) (ns : List ℕ) → mem n ns ≡ true → (k : ℕ) × (k < length ns) × (get_or ns k 0 ≡ n)
mem_at n [] h = absurd (false≢true h)
mem_at n (m ∷ ms) h =
    ⊎_elim (λ (g : (n == m) ≡ true). (0, omega arith, sym (eqb-true n m g)))
    (λ (g : mem n ms ≡ true). let more = mem_at n ms g in (suc more.0, omega (arith, more.1), more.2))
    (or_cases (n == m) (mem n ms) h)

mem_found : (n : ℕ) (ns : List ℕ) (k : ℕ) → k < length ns → get_or ns k 0 ≡ n → mem n ns ≡ true
mem_found n ns k within is = mem_any n ns ∙ list_any_at (λ m. n == m) ns k 0 within (eq-eqb n (get_or ns k 0) (sym is))

-- a search finds a number where it stands there
pub search_found : (ns : List ℕ) (n : ℕ) (r : Result ℕ ℕ) → IsNonDecreasing ns → IsBinarySearchResult (λ y. nat_cmp y n) ns r → is_ok r ≡ mem n ns
search_found ns n r rising found = by r (searched ns n r found (λ i j. rising i j 0))
  where
    by : (r : Result ℕ ℕ) → MatchResult r (λ i. (i < length ns) × (get_or ns i 0 ≡ n)) (λ i. (i ≤ length ns) × ((k : ℕ) → k < i → get_or ns k 0 < n) × ((k : ℕ) → i ≤ k → k < length ns → n < get_or ns k 0)) →
        is_ok r ≡ mem n ns
    by (Ok i) here = sym (mem_found n ns i here.0 here.1)
    by (Err i) apart = sym (false_from_ne_true (mem n ns) (λ (h : mem n ns ≡ true).
        let at = mem_at n ns h in
        ⊎_elim (λ (low : at.0 < i). omega (arith, apart.1 at.0 low, at.2)) (λ (high : i ≤ at.0). omega (arith, apart.2 at.0 high at.1, at.2)) (cases_lt at.0 i)))

-- the root stands there where it is the first
pub root_first : (ns : List ℕ) (first : ℕ) → 0 < length ns → get_or ns 0 0 ≡ first → IsNonDecreasing ns → nat_eq first 0 ≡ mem 0 ns
root_first ns first some is rising = by (nat_eq first 0) refl
  where
    by : (b : Bool) → nat_eq first 0 ≡ b → b ≡ mem 0 ns
    by true e = sym (mem_found 0 ns 0 some (is ∙ eqb-true first 0 e))
    by false e = sym (false_from_ne_true (mem 0 ns) (λ (h : mem 0 ns ≡ true).
        let at = mem_at 0 ns h in
        let low : get_or ns 0 0 ≤ get_or ns at.0 0 = rising 0 at.0 0 (omega arith) at.1 in
        let zero_first : first ≡ 0 = omega (arith, low, at.2, is) in
        false≢true (sym e ∙ eq-eqb first 0 zero_first)))
