-- Lists that rise, and numbers given along a list that do.
use Rattle.std.proofs.Common.{◌≡◌, ◌≢◌, ℕ, ◌+◌, ◌*◌, ◌<◌, ◌≤◌, zero, suc, Bool, true, false, List, [], ◌∷◌, ◌++◌, length, map, Option, None, get_or, refl, sym, ap, ap₂, ◌∙◌, subst, ⊎_elim, arith, ltb, eqb, eq-eqb, ne_eqb, lt-ltb, le-ltb}
use Rattle.std.proofs.lemmas.List.{map-append}
use Rattle.doc_table.specs.Lists.{last_or, mem, occurs, place_in, Rise}
use Rattle.doc_table.specs.Order.{after}
use Rattle.doc_table.specs.declared.node.Node.{Node}
use Rattle.doc_table.specs.inner.Kept.{rank_at, ranks_of}
use Rattle.doc_table.proofs.ListLemmas.{In, In-mem, In-cons, none-mem, occurs-head, occurs-other, occurs-same, eq_or}

pub rise-bounds : (low : ℕ) (ns : List ℕ) (high : ℕ) → Rise low ns high → low ≤ high
rise-bounds low [] high r = r
rise-bounds low (n ∷ ns) high r = omega (arith, r.0, rise-bounds (suc n) ns high r.1)

-- wider bounds
pub rise-within : (ns : List ℕ) (low below high above : ℕ) → Rise low ns high → below ≤ low → high ≤ above → Rise below ns above
rise-within [] low below high above r l h = omega arith
rise-within (n ∷ ns) low below high above r l h = (omega (arith, r.0), rise-within ns (suc n) (suc n) high above r.1 (omega arith) h)

-- two lists, one behind the other
pub rise-append : (xs ys : List ℕ) (low middle high : ℕ) → Rise low xs middle → Rise middle ys high → Rise low (xs ++ ys) high
rise-append [] ys low middle high r s = rise-within ys middle low high high s r (omega arith)
rise-append (x ∷ xs) ys low middle high r s = (r.0, rise-append xs ys (suc x) middle high r.1 s)

-- the second of them by itself, and the first, up to where the second begins
pub rise-back : (xs ys : List ℕ) (low high : ℕ) → Rise low (xs ++ ys) high → Rise low ys high
rise-back [] ys low high r = r
rise-back (x ∷ xs) ys low high r = rise-within ys (suc x) low high high (rise-back xs ys (suc x) high r.1) (omega (arith, r.0)) (omega arith)

pub rise-front : (xs ys : List ℕ) (low high : ℕ) → Rise low (xs ++ ys) high → Rise low xs high
rise-front [] ys low high r = rise-bounds low ys high r
rise-front (x ∷ xs) ys low high r = (r.0, rise-front xs ys (suc x) high r.1)

pub rise-to : (xs : List ℕ) (y : ℕ) (ys : List ℕ) (low high : ℕ) → Rise low (xs ++ y ∷ ys) high → Rise low xs y
rise-to [] y ys low high r = r.0
rise-to (x ∷ xs) y ys low high r = (r.0, rise-to xs y ys (suc x) high r.1)

-- the bounds of the last
pub rise-last : (x : ℕ) (xs : List ℕ) (low high : ℕ) → Rise low (x ∷ xs) high → Rise low (x ∷ xs) (suc (last_or x xs))
rise-last x [] low high r = (r.0, omega arith)
rise-last x (y ∷ xs) low high r = (r.0, rise-last y xs (suc x) high r.1)

pub last-below : (x : ℕ) (xs : List ℕ) (low high : ℕ) → Rise low (x ∷ xs) high → last_or x xs < high
last-below x [] low high r = r.1
last-below x (y ∷ xs) low high r = last-below y xs (suc x) high r.1

-- what two functions that agree along a list give along it
pub map-agree : {A : Type 0} (f g : ℕ → A) (xs : List ℕ) → ((n : ℕ) → In n xs → f n ≡ g n) → map f xs ≡ map g xs
map-agree f g [] same = refl
map-agree f g (x ∷ xs) same = ap₂ (λ y ys. y ∷ ys) (same x (occurs-head x xs)) (map-agree f g xs (λ n h. same n (omega (arith, h))))

module _ (f : ℕ → ℕ) where
  pub last-mapped : (x : ℕ) (xs : List ℕ) → last_or (f x) (map f xs) ≡ f (last_or x xs)
  last-mapped x [] = refl
  last-mapped x (y ∷ xs) = last-mapped y xs

  -- each is within the bounds
  pub rise-low : (xs : List ℕ) (low high k : ℕ) → Rise low (map f xs) high → In k xs → low ≤ f k
  rise-low [] low high k r h = absurd (omega arith)
  rise-low (x ∷ xs) low high k r h =
      ⊎_elim (λ (e : k ≡ x). omega (arith, r.0, ap f e)) (λ (g : In k xs). omega (arith, r.0, rise-low xs (suc (f x)) high k r.1 g)) (In-cons k x xs h)

  pub rise-high : (xs : List ℕ) (low high k : ℕ) → Rise low (map f xs) high → In k xs → f k < high
  rise-high [] low high k r h = absurd (omega arith)
  rise-high (x ∷ xs) low high k r h =
      ⊎_elim (λ (e : k ≡ x). omega (arith, rise-bounds (suc (f x)) (map f xs) high r.1, ap f e)) (λ (g : In k xs). rise-high xs (suc (f x)) high k r.1 g) (In-cons k x xs h)

  -- what stands behind a number has more, and before it less
  after-none : (m a : ℕ) (xs : List ℕ) → occurs m xs ≡ 0 → occurs m (after a xs) ≡ 0
  after-none m a [] h = h
  after-none m a (x ∷ xs) h = by (eqb a x) refl (after-none m a xs (omega (arith, h)))
    where
      by : (b : Bool) → eqb a x ≡ b → occurs m (after a xs) ≡ 0 → occurs m (after a (x ∷ xs)) ≡ 0
      by true e more = rw e (omega (arith, h))
      by false e more = rw e more

  absent : (xs : List ℕ) (x high : ℕ) → Rise (suc (f x)) (map f xs) high → occurs x xs ≡ 0
  absent xs x high r = by (occurs x xs) refl
    where
      by : (k : ℕ) → occurs x xs ≡ k → k ≡ 0
      by zero e = refl
      by (suc k) e = absurd (omega (arith, rise-low xs (suc (f x)) high x r (omega (arith, e))))

  -- so of two numbers the one that stands before the other has less
  pub before-by : (xs : List ℕ) (low high a b : ℕ) → Rise low (map f xs) high → In a xs → In b xs → ltb (f a) (f b) ≡ mem b (after a xs)
  before-by [] low high a b r ha hb = absurd (omega arith)
  before-by (x ∷ xs) low high a b r ha hb =
      ⊎_elim
      (λ (e : a ≡ x). rw (eq-eqb a x e)
      (⊎_elim
      (λ (same : b ≡ x). le-ltb (f a) (f b) (omega (arith, ap f e, ap f same)) ∙ sym (none-mem b xs (ap (λ k. occurs k xs) same ∙ absent xs x high r.1)))
      (λ (g : In b xs). lt-ltb (f a) (f b) (omega (arith, ap f e, rise-low xs (suc (f x)) high b r.1 g)) ∙ sym (In-mem b xs g))
      (In-cons b x xs hb)))
      (λ (ne : a ≢ x).
      let ga : In a xs = omega (arith, ha, occurs-other a x xs ne) in
      rw (ne_eqb a x ne)
      (⊎_elim
      (λ (same : b ≡ x).
      le-ltb (f a) (f b) (omega (arith, ap f same, rise-low xs (suc (f x)) high a r.1 ga))
      ∙ sym (none-mem b (after a xs) (after-none b a xs (ap (λ k. occurs k xs) same ∙ absent xs x high r.1))))
      (λ (g : In b xs). before-by xs (suc (f x)) high a b r.1 ga g)
      (In-cons b x xs hb)))
      (eq_or a x)

-- numbers spread evenly along a list by their places in it
pub rise-evenly : (ms : List ℕ) (f : ℕ → ℕ) (first step : ℕ) → 1 ≤ step → ((m : ℕ) → occurs m ms ≤ 1) → ((m : ℕ) → In m ms → f m ≡ first + place_in m ms * step) →
    Rise first (map f ms) (first + length ms * step)
rise-evenly [] f first step some once is = omega arith
rise-evenly (m ∷ ms) f first step some once is =
    let head : f m ≡ first = is m (occurs-head m ms) ∙ rw (eq-eqb m m refl) (omega arith) in
    let others : (k : ℕ) → In k ms → f k ≡ (first + step) + place_in k ms * step =
    λ k h.
    let ne : k ≢ m = λ e. absurd (let g : In m ms = subst (λ j. In j ms) e h in omega (arith, once m, occurs-same m ms)) in
    is k (omega (arith, h)) ∙ rw (ne_eqb k m ne) (omega arith) in (
      omega (arith, head),
      rise-within (map f ms) (first + step) (suc (f m)) ((first + step) + length ms * step) (first + suc (length ms) * step)
          (rise-evenly ms f (first + step) step some (λ k. omega (arith, once k)) others) (omega (arith, head)) (omega arith),
    )

-- ranks of two lists, one behind the other
pub ranks-append : (nodes : List (Option Node)) (xs ys : List ℕ) (low middle high : ℕ) → Rise low (ranks_of nodes xs) middle → Rise middle (ranks_of nodes ys) high →
    Rise low (ranks_of nodes (xs ++ ys)) high
ranks-append nodes xs ys low middle high r s =
    subst (λ ranks. Rise low ranks high) (sym (map-append (λ n. rank_at (get_or nodes n None)) xs ys)) (rise-append (ranks_of nodes xs) (ranks_of nodes ys) low middle high r s)

pub ranks-front : (nodes : List (Option Node)) (xs ys : List ℕ) (low high : ℕ) → Rise low (ranks_of nodes (xs ++ ys)) high → Rise low (ranks_of nodes xs) high
ranks-front nodes xs ys low high r =
    rise-front (ranks_of nodes xs) (ranks_of nodes ys) low high (subst (λ ranks. Rise low ranks high) (map-append (λ n. rank_at (get_or nodes n None)) xs ys) r)

-- up to the last of a list, and from the first of another
pub ranks-ending : (nodes : List (Option Node)) (xs : List ℕ) (y : ℕ) (ys : List ℕ) (low high : ℕ) → Rise low (ranks_of nodes (xs ++ y ∷ ys)) high →
    Rise low (ranks_of nodes (xs ++ y ∷ ys)) (suc (rank_at (get_or nodes (last_or y ys) None)))
ranks-ending nodes [] y ys low high r =
    subst (λ k. Rise low (ranks_of nodes (y ∷ ys)) (suc k)) (last-mapped (λ n. rank_at (get_or nodes n None)) y ys)
    (rise-last (rank_at (get_or nodes y None)) (ranks_of nodes ys) low high r)
ranks-ending nodes (x ∷ xs) y ys low high r = (r.0, ranks-ending nodes xs y ys _ high r.1)

pub ranks-begun : (nodes : List (Option Node)) (xs : List ℕ) (y : ℕ) (ys : List ℕ) (low high : ℕ) → Rise low (ranks_of nodes (xs ++ y ∷ ys)) high →
    Rise (rank_at (get_or nodes y None)) (ranks_of nodes (y ∷ ys)) high
ranks-begun nodes [] y ys low high r = (omega arith, r.1)
ranks-begun nodes (x ∷ xs) y ys low high r = ranks-begun nodes xs y ys _ high r.1

-- of a list, before and behind one of its numbers
pub ranks-before : (nodes : List (Option Node)) (xs : List ℕ) (n : ℕ) (ys : List ℕ) (low high k : ℕ) → Rise low (ranks_of nodes (xs ++ n ∷ ys)) high → In k xs →
    rank_at (get_or nodes k None) < rank_at (get_or nodes n None)
ranks-before nodes xs n ys low high k r h =
    rise-high (λ m. rank_at (get_or nodes m None)) xs low (rank_at (get_or nodes n None)) k
    (rise-to (ranks_of nodes xs) _ (ranks_of nodes ys) low high (subst (λ ranks. Rise low ranks high) (map-append (λ m. rank_at (get_or nodes m None)) xs (n ∷ ys)) r)) h

pub ranks-behind : (nodes : List (Option Node)) (xs : List ℕ) (n : ℕ) (ys : List ℕ) (low high k : ℕ) → Rise low (ranks_of nodes (xs ++ n ∷ ys)) high → In k ys →
    rank_at (get_or nodes n None) < rank_at (get_or nodes k None)
ranks-behind nodes xs n ys low high k r h =
    rise-low (λ m. rank_at (get_or nodes m None)) ys _ high k (ranks-begun nodes xs n ys low high r).1 h

-- without a part in the middle
pub ranks-less : (nodes : List (Option Node)) (xs gone ys : List ℕ) (low high : ℕ) → Rise low (ranks_of nodes (xs ++ (gone ++ ys))) high → Rise low (ranks_of nodes (xs ++ ys)) high
ranks-less nodes [] [] ys low high r = r
ranks-less nodes [] (g ∷ gone) ys low high r =
    rise-within (ranks_of nodes ys) _ low high high (ranks-less nodes [] gone ys _ high r.1) (omega (arith, r.0)) (omega arith)
ranks-less nodes (x ∷ xs) gone ys low high r = (r.0, ranks-less nodes xs gone ys _ high r.1)
