-- Places in a list of numbers, and lists of numbers under another numbering.
use Rattle.std.proofs.Common.{◌≡◌, ◌≢◌, ℕ, ◌+◌, ◌<◌, ◌≤◌, zero, suc, true, List, [], ◌∷◌, ◌++◌, length, map, get_or, refl, sym, ap, ◌∙◌, subst, ⊎_elim, true≢false, arith, eq-eqb, ne_eqb}
use Rattle.std.proofs.lemmas.List.{get_or-append-add}
use Rattle.doc_table.specs.Lists.{mem, occurs, place_in}
use Rattle.doc_table.proofs.ListLemmas.{In, In-cons, In-mem, mem-In, occurs-head, occurs-other, occurs-same, eq_or}

pub place-head : (n x : ℕ) (xs : List ℕ) → n ≡ x → place_in n (x ∷ xs) ≡ 0
place-head n x xs e = rw (eq-eqb n x e) refl

pub place-tail : (n x : ℕ) (xs : List ℕ) → n ≢ x → place_in n (x ∷ xs) ≡ suc (place_in n xs)
place-tail n x xs ne = rw (ne_eqb n x ne) (omega arith)

In-tail : (n x : ℕ) (xs : List ℕ) → n ≢ x → In n (x ∷ xs) → In n xs
In-tail n x xs ne h = omega (arith, h, occurs-other n x xs ne)

pub place-first : (n : ℕ) (xs : List ℕ) → place_in n (n ∷ xs) ≡ 0
place-first n xs = place-head n n xs refl

pub place-short : (n : ℕ) (xs : List ℕ) → In n xs → place_in n xs < length xs
place-short n [] h = absurd (omega arith)
place-short n (x ∷ xs) h =
    ⊎_elim (λ (e : n ≡ x). omega (arith, place-head n x xs e))
    (λ (ne : n ≢ x). omega (arith, place-tail n x xs ne, place-short n xs (In-tail n x xs ne h)))
    (eq_or n x)

pub place-most : (n : ℕ) (xs : List ℕ) → place_in n xs ≤ length xs
place-most n [] = omega arith
place-most n (x ∷ xs) =
    ⊎_elim (λ (e : n ≡ x). omega (arith, place-head n x xs e)) (λ (ne : n ≢ x). omega (arith, place-tail n x xs ne, place-most n xs)) (eq_or n x)

-- two numbers have two places
pub place-one : (a b : ℕ) (xs : List ℕ) → In a xs → In b xs → place_in a xs ≡ place_in b xs → a ≡ b
place-one a b [] ha hb e = absurd (omega arith)
place-one a b (x ∷ xs) ha hb e =
    ⊎_elim
    (λ (p : a ≡ x). ⊎_elim
    (λ (q : b ≡ x). p ∙ sym q)
    (λ (nq : b ≢ x). absurd (omega (arith, e, place-head a x xs p, place-tail b x xs nq)))
    (eq_or b x))
    (λ (np : a ≢ x). ⊎_elim
    (λ (q : b ≡ x). absurd (omega (arith, e, place-tail a x xs np, place-head b x xs q)))
    (λ (nq : b ≢ x). place-one a b xs (In-tail a x xs np ha) (In-tail b x xs nq hb) (omega (arith, e, place-tail a x xs np, place-tail b x xs nq)))
    (eq_or b x))
    (eq_or a x)

-- the number at a place
pub record Placed (xs : List ℕ) (i : ℕ) : Type 0 where
  pub number : ℕ
  pub here : In number xs
  pub place : place_in number xs ≡ i

pub placed : (xs : List ℕ) → ((n : ℕ) → occurs n xs ≤ 1) → (i : ℕ) → i < length xs → Placed xs i
placed [] once i h = absurd (omega arith)
placed (x ∷ xs) once zero h = record { number = x; here = occurs-head x xs; place = place-first x xs }
placed (x ∷ xs) once (suc i) h =
    let r : Placed xs i = placed xs (λ n. omega (arith, once n)) i (omega (arith, h)) in
    let other : r.number ≢ x = λ e. absurd (omega (arith, subst (λ k. In k xs) e r.here, once x, occurs-same x xs)) in
    record { number = r.number; here = omega (arith, r.here); place = place-tail r.number x xs other ∙ ap suc r.place }

-- what a list got by the numbers of another has at the place of one
at-place : {A : Type 0} (g : ℕ → A) (xs : List ℕ) (m : ℕ) (d : A) → In m xs → get_or (map g xs) (place_in m xs) d ≡ g m
at-place g [] m d h = absurd (omega arith)
at-place g (x ∷ xs) m d h =
    ⊎_elim (λ (e : m ≡ x). ap (λ k. get_or (g x ∷ map g xs) k d) (place-head m x xs e) ∙ ap g (sym e))
    (λ (ne : m ≢ x). ap (λ k. get_or (g x ∷ map g xs) k d) (place-tail m x xs ne) ∙ at-place g xs m d (In-tail m x xs ne h))
    (eq_or m x)

pub get-mapped : {A : Type 0} (g : ℕ → A) (front : List A) (xs : List ℕ) (m : ℕ) (d : A) → In m xs → get_or (front ++ map g xs) (length front + place_in m xs) d ≡ g m
get-mapped g front xs m d h = get_or-append-add front (map g xs) (place_in m xs) d ∙ at-place g xs m d h

-- a number got from one of a list
pub record Mapped (f : ℕ → ℕ) (xs : List ℕ) (n : ℕ) : Type 0 where
  pub number : ℕ
  pub here : In number xs
  pub is : n ≡ f number

module _ (f : ℕ → ℕ) where
  pub occurs-map_none : (n : ℕ) (xs : List ℕ) → ((m : ℕ) → In m xs → f m ≢ n) → occurs n (map f xs) ≡ 0
  occurs-map_none n [] apart = refl
  occurs-map_none n (x ∷ xs) apart =
      occurs-other n (f x) (map f xs) (λ e. apart x (occurs-head x xs) (sym e)) ∙ occurs-map_none n xs (λ m h. apart m (omega (arith, h)))

  pub occurs-map_same : (m : ℕ) (xs : List ℕ) → ((k : ℕ) → In k xs → f k ≡ f m → k ≡ m) → occurs (f m) (map f xs) ≡ occurs m xs
  occurs-map_same m [] one = refl
  occurs-map_same m (x ∷ xs) one =
      let more : occurs (f m) (map f xs) ≡ occurs m xs = occurs-map_same m xs (λ k h. one k (omega (arith, h))) in
      ⊎_elim (λ (e : m ≡ x). rw (eq-eqb (f m) (f x) (ap f e), eq-eqb m x e, more) refl)
      (λ (ne : m ≢ x). occurs-other (f m) (f x) (map f xs) (λ e. ne (sym (one x (occurs-head x xs) (sym e)))) ∙ (more ∙ sym (occurs-other m x xs ne)))
      (eq_or m x)

  pub mem-map : (n : ℕ) (xs : List ℕ) → mem n (map f xs) ≡ true → Mapped f xs n
  mem-map n [] h = absurd (true≢false (sym h))
  mem-map n (x ∷ xs) h =
      ⊎_elim (λ (e : n ≡ f x). let r : Mapped f (x ∷ xs) n = record { number = x; here = occurs-head x xs; is = e } in r)
      (λ (k : In n (map f xs)).
      let m : Mapped f xs n = mem-map n xs (In-mem n (map f xs) k) in
      let r : Mapped f (x ∷ xs) n = record { number = m.number; here = omega (arith, m.here); is = m.is } in r)
      (In-cons n (f x) (map f xs) (mem-In n (f x ∷ map f xs) h))
