-- Lists of numbers under a map that keeps different numbers different: what is asked of a number is asked of its image.
use Rattle.std.proofs.Common.{◌≡◌, ℕ, suc, Bool, true, false, cond, ◌||◌, eqb, List, [], ◌∷◌, ◌++◌, map, Option, Some, refl, sym, ap, ap₂, ◌∙◌, ⊎_elim, eq-eqb, ne_eqb, ◌≢◌}
use Rattle.std.specs.Prelude.{filter, option_map}
use Rattle.std.specs.List.{list_any, flat_map}
use Rattle.doc_table.specs.Lists.{mem}
use Rattle.doc_table.specs.Order.{after}
use Rattle.doc_table.specs.SameTree.{position_in}
use Rattle.doc_table.proofs.ListLemmas.{eq_or, mem-head, mem-tail}

module _ (f : ℕ → ℕ) (apart : (a b : ℕ) → f a ≡ f b → a ≡ b) where
  pub eqb-moved : (a b : ℕ) → eqb (f a) (f b) ≡ eqb a b
  eqb-moved a b = ⊎_elim
      (λ (same : a ≡ b). eq-eqb (f a) (f b) (ap f same) ∙ sym (eq-eqb a b same))
      (λ (ne : a ≢ b). ne_eqb (f a) (f b) (λ h. ne (apart a b h)) ∙ sym (ne_eqb a b ne))
      (eq_or a b)

  pub mem-moved : (n : ℕ) (ms : List ℕ) → mem (f n) (map f ms) ≡ mem n ms
  mem-moved n [] = refl
  mem-moved n (m ∷ ms) = ap₂ (λ x y. x || y) (eqb-moved n m) (mem-moved n ms)

  pub position-moved : (n : ℕ) (ms : List ℕ) → position_in (f n) (map f ms) ≡ position_in n ms
  position-moved n [] = refl
  position-moved n (m ∷ ms) = ap₂ (λ (b : Bool) (o : Option ℕ). cond b (Some 0) (option_map (λ i. suc i) o)) (eqb-moved n m) (position-moved n ms)

  pub after-moved : (n : ℕ) (ms : List ℕ) → after (f n) (map f ms) ≡ map f (after n ms)
  after-moved n [] = refl
  after-moved n (m ∷ ms) = by (eqb n m) (eqb-moved n m) (after-moved n ms)
    where
      by : (b : Bool) → eqb (f n) (f m) ≡ b → after (f n) (map f ms) ≡ map f (after n ms) →
          cond (eqb (f n) (f m)) (map f ms) (after (f n) (map f ms)) ≡ map f (cond b ms (after n ms))
      by true e more = ap (λ c. cond c (map f ms) (after (f n) (map f ms))) e
      by false e more = ap (λ c. cond c (map f ms) (after (f n) (map f ms))) e ∙ more

module _ (f : ℕ → ℕ) (p q : ℕ → Bool) where
  -- a test of numbers and a test of their images that agree
  pub filter-moved : ((n : ℕ) → q (f n) ≡ p n) → (ns : List ℕ) → filter q (map f ns) ≡ map f (filter p ns)
  filter-moved agree [] = refl
  filter-moved agree (n ∷ ns) = by (p n) (agree n) (filter-moved agree ns)
    where
      by : (b : Bool) → q (f n) ≡ b → filter q (map f ns) ≡ map f (filter p ns) →
          cond (q (f n)) (f n ∷ filter q (map f ns)) (filter q (map f ns)) ≡ map f (cond b (n ∷ filter p ns) (filter p ns))
      by true e more = ap (λ c. cond c (f n ∷ filter q (map f ns)) (filter q (map f ns))) e ∙ ap (λ l. f n ∷ l) more
      by false e more = ap (λ c. cond c (f n ∷ filter q (map f ns)) (filter q (map f ns))) e ∙ more

  pub any-moved : ((n : ℕ) → q (f n) ≡ p n) → (ns : List ℕ) → list_any q (map f ns) ≡ list_any p ns
  any-moved agree [] = refl
  any-moved agree (n ∷ ns) = ap₂ (λ x y. x || y) (agree n) (any-moved agree ns)

module _ (f : ℕ → ℕ) where
  -- what is told of numbers and of their images alike
  pub told-moved : {A : Type 0} (g h : ℕ → List A) (ns : List ℕ) → ((n : ℕ) → mem n ns ≡ true → h (f n) ≡ g n) → flat_map h (map f ns) ≡ flat_map g ns
  told-moved g h [] same = refl
  told-moved g h (n ∷ ns) same =
      ap₂ (λ x y. x ++ y) (same n (mem-head n ns)) (told-moved g h ns (λ m k. same m (mem-tail m n ns k)))
