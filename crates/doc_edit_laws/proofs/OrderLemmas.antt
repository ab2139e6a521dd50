-- Tests of the nodes of two trees: where only nodes that live in both pass, they filter the two orders alike.
use Rattle.std.proofs.Common.{◌≡◌, ℕ, Bool, true, false, cond, List, [], ◌∷◌, refl, sym, ap, ◌∙◌, true≢false}
use Rattle.std.specs.Prelude.{filter}
use Rattle.doc_tree.specs.Table.{Table}
use Rattle.doc_tree.specs.Walks.{order}
use Rattle.doc_edit_laws.specs.Agreement.{Stays, lives_in_both}

-- a narrow test after a wide one is the narrow one alone
pub filter-narrow : (narrow wide : ℕ → Bool) → ((n : ℕ) → narrow n ≡ true → wide n ≡ true) → (ns : List ℕ) → filter narrow (filter wide ns) ≡ filter narrow ns
filter-narrow narrow wide h [] = refl
filter-narrow narrow wide h (n ∷ ns) = by (wide n) (narrow n) refl (h n) (filter-narrow narrow wide h ns)
  where
    by : (w b : Bool) → narrow n ≡ b → (narrow n ≡ true → w ≡ true) → filter narrow (filter wide ns) ≡ filter narrow ns →
        filter narrow (cond w (n ∷ filter wide ns) (filter wide ns)) ≡ cond b (n ∷ filter narrow ns) (filter narrow ns)
    by true true e k more = rw e (ap (λ l. n ∷ l) more)
    by true false e k more = rw e more
    by false true e k more = absurd (true≢false (sym (k e)))
    by false false e k more = more

-- two tests that agree where a wide one passes, and pass nowhere else
pub tests-alike : (p q wide : ℕ → Bool) → ((n : ℕ) → p n ≡ true → wide n ≡ true) → ((n : ℕ) → q n ≡ true → wide n ≡ true) →
    ((n : ℕ) → wide n ≡ true → p n ≡ q n) → (n : ℕ) → p n ≡ q n
tests-alike p q wide hp hq agree n = by (p n) (q n) refl refl
  where
    by : (b c : Bool) → p n ≡ b → q n ≡ c → b ≡ c
    by true c e g = sym e ∙ (agree n (hp n e) ∙ g)
    by false true e g = sym e ∙ (agree n (hq n g) ∙ g)
    by false false e g = refl

-- what only nodes of both trees pass filters the two orders alike
pub orders-alike : (T U : Table) → filter (lives_in_both T U) (order T) ≡ filter (lives_in_both T U) (order U) →
    (p q : ℕ → Bool) → ((n : ℕ) → p n ≡ true → Stays T U n) → ((n : ℕ) → q n ≡ true → Stays T U n) → ((n : ℕ) → Stays T U n → p n ≡ q n) →
    filter p (order T) ≡ filter q (order U)
orders-alike T U same p q hp hq agree =
    sym (filter-narrow p (lives_in_both T U) hp (order T))
    ∙ (ap (filter p) same
    ∙ (filter-narrow p (lives_in_both T U) hp (order U)
    ∙ ap (λ (test : ℕ → Bool). filter test (order U)) (λ i n. tests-alike p q (lives_in_both T U) hp hq agree n i)))
