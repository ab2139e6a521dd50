-- Sums over the nodes of a table: over its numbers in document order they are the same.
use Rattle.std.proofs.Common.{◌≡◌, ◌≢◌, ℕ, ◌+◌, ◌-◌, ◌<◌, ◌≤◌, suc, zero, Bool, true, false, cond, List, [], ◌∷◌, ◌++◌, length, set, get_or, Option, None, Some, is_some, refl, sym, ap, ap₂, ◌∙◌, subst, ⊎_elim, arith, eqb, sum_by, eqb-true}
use Rattle.std.proofs.lemmas.List.Sums.{sum_by-cons}
use Rattle.std.proofs.lemmas.Bool.{cases_lt}
use Rattle.doc_table.specs.Lists.{occurs}
use Rattle.doc_table.specs.Table.{Table, Facts, entry_at, value_at, value_of, content_at}
use Rattle.doc_table.specs.Walks.{order, text_bytes}
use Rattle.doc_table.specs.inner.Forest.{Forest, flat, Whole}
use Rattle.doc_table.specs.inner.Sound.{table_sum, count_live, text_held, text_in}
use Rattle.doc_table.proofs.ListLemmas.{In, occurs-head, eq_or, other-cases, occurs-same}
use Rattle.doc_table.proofs.Telling.{order-flat}

-- sums over a table of which an entry changes, or which has one node more
pub sum-set : (f : Facts → ℕ) (T : Table) (p : ℕ) (g : Option Facts → Option Facts) → (g None ≡ None) → ((node : Facts) → table_sum f (g (Some node) ∷ []) ≡ f node + 0) →
    table_sum f (set T p (g (entry_at T p))) ≡ table_sum f T
sum-set f [] p g none some = refl
sum-set f (None ∷ T) zero g none some = rw none refl
sum-set f (Some node ∷ T) zero g none some = by (g (Some node)) (some node)
  where
    by : (o : Option Facts) → table_sum f (o ∷ []) ≡ f node + 0 → table_sum f (o ∷ T) ≡ f node + table_sum f T
    by None e = omega (arith, e)
    by (Some other) e = omega (arith, e)
sum-set f (None ∷ T) (suc p) g none some = sum-set f T p g none some
sum-set f (Some node ∷ T) (suc p) g none some = ap (λ k. f node + k) (sum-set f T p g none some)

pub sum-more : (f : Facts → ℕ) (T : Table) (node : Facts) → table_sum f (T ++ Some node ∷ []) ≡ table_sum f T + f node
sum-more f [] node = omega arith
sum-more f (None ∷ T) node = sum-more f T node
sum-more f (Some old ∷ T) node = omega (arith, sum-more f T node)

-- a list without the first of a number's places
less : ℕ → List ℕ → List ℕ
less n [] = []
less n (x ∷ xs) = cond (eqb n x) xs (x ∷ less n xs)

sum-less : (f : ℕ → ℕ) (n : ℕ) (xs : List ℕ) → In n xs → sum_by f xs ≡ f n + sum_by f (less n xs)
unfolding less
sum-less f n [] h = absurd (omega arith)
sum-less f n (x ∷ xs) h = by (eqb n x) refl h (λ k. sum-less f n xs k)
  where
    by : (b : Bool) → eqb n x ≡ b → 1 ≤ cond b 1 0 + occurs n xs → (In n xs → sum_by f xs ≡ f n + sum_by f (less n xs)) → sum_by f (x ∷ xs) ≡ f n + sum_by f (cond b xs (x ∷ less n xs))
    by true e g more = sum_by-cons f x xs ∙ ap (λ k. f k + sum_by f xs) (sym (eqb-true n x e))
    by false e g more =
        let k : In n xs = omega (arith, g) in
        omega (arith, sum_by-cons f x xs, more k, sum_by-cons f x (less n xs))

occurs-less : (m n : ℕ) (xs : List ℕ) → In n xs → occurs m xs ≡ cond (eqb m n) 1 0 + occurs m (less n xs)
unfolding less
occurs-less m n [] h = absurd (omega arith)
occurs-less m n (x ∷ xs) h = by (eqb n x) refl h (λ k. occurs-less m n xs k)
  where
    by : (b : Bool) → eqb n x ≡ b → 1 ≤ cond b 1 0 + occurs n xs → (In n xs → occurs m xs ≡ cond (eqb m n) 1 0 + occurs m (less n xs)) →
        cond (eqb m x) 1 0 + occurs m xs ≡ cond (eqb m n) 1 0 + occurs m (cond b xs (x ∷ less n xs))
    by true e g more = ap (λ k. cond (eqb m k) 1 0 + occurs m xs) (sym (eqb-true n x e))
    by false e g more =
        let k : In n xs = omega (arith, g) in
        omega (arith, more k)

less-other : (m n : ℕ) (xs : List ℕ) → In n xs → m ≢ n → occurs m (less n xs) ≡ occurs m xs
less-other m n xs h ne = omega (arith, occurs-less m n xs h, other-cases m n (occurs m (less n xs)) ne)

less-same : (n : ℕ) (xs : List ℕ) → In n xs → occurs n xs ≡ suc (occurs n (less n xs))
less-same n xs h = occurs-less n n xs h ∙ occurs-same n (less n xs)

no-number : (xs : List ℕ) → ((n : ℕ) → occurs n xs ≡ 0) → xs ≡ []
no-number [] none = refl
no-number (x ∷ xs) none = absurd (omega (arith, none x, occurs-head x xs))

-- the numbers of a list from k on are the live ones of a table, each once: along the list a sum is that of the table
along : (f : ℕ → ℕ) (g : Facts → ℕ) (T : Table) (k : ℕ) (xs : List ℕ) → ((n : ℕ) (node : Facts) → get_or T n None ≡ Some node → f (k + n) ≡ g node) →
    ((n : ℕ) → occurs (k + n) xs ≡ cond (is_some (get_or T n None)) 1 0) → ((n : ℕ) → n < k → occurs n xs ≡ 0) → sum_by f xs ≡ table_sum g T
along f g [] k xs same once early =
    ap (sum_by f) (no-number xs (λ n. ⊎_elim (λ (h : n < k). early n h) (λ (h : k ≤ n). past n h) (cases_lt n k)))
  where
    past : (n : ℕ) → k ≤ n → occurs n xs ≡ 0
    past n h = subst (λ m. occurs m xs ≡ 0) (let e : k + (n - k) ≡ n = omega (arith, h) in e) (once (n - k))
along f g (None ∷ T) k xs same once early =
    along f g T (suc k) xs
    (λ n node e. ap f (omega arith) ∙ same (suc n) node e)
    (λ n. ap (λ m. occurs m xs) (omega arith) ∙ once (suc n))
    (λ n h. ⊎_elim (λ (e : n ≡ k). ap (λ m. occurs m xs) (e ∙ omega arith) ∙ once 0) (λ (ne : n ≢ k). early n (omega (arith, h, ne))) (eq_or n k))
along f g (Some node ∷ T) k xs same once early =
    let here : In k xs = omega (arith, subst (λ m. occurs m xs ≡ 1) (let e : k + 0 ≡ k = omega arith in e) (once 0)) in
    sum-less f k xs here
    ∙ ap₂ (λ a b. a + b) (ap f (omega arith) ∙ same 0 node refl)
    (along f g T (suc k) (less k xs)
    (λ n other e. ap f (omega arith) ∙ same (suc n) other e)
    (λ n. less-other (suc k + n) k xs here (λ e. absurd (omega (arith, e))) ∙ (ap (λ m. occurs m xs) (omega arith) ∙ once (suc n)))
    (λ n h. ⊎_elim (λ (e : n ≡ k). subst (λ m. occurs m (less k xs) ≡ 0) (sym e) gone) (λ (ne : n ≢ k). less-other n k xs here ne ∙ early n (omega (arith, h, ne))) (eq_or n k)))
  where
    gone : occurs k (less k xs) ≡ 0
    gone = omega (
      arith,
      less-same k xs (omega (arith, subst (λ m. occurs m xs ≡ 1) (let e : k + 0 ≡ k = omega arith in e) (once 0))),
      subst (λ m. occurs m xs ≡ 1) (let e : k + 0 ≡ k = omega arith in e) (once 0),
    )

length-sum : (xs : List ℕ) → length xs ≡ sum_by (λ _. 1) xs
length-sum [] = refl
length-sum (x ∷ xs) = omega (arith, length-sum xs, sum_by-cons (λ _. 1) x xs)

-- numbers below a bound, each at most once, are no more than the bound
pub few-below : (n : ℕ) (xs : List ℕ) → ((m : ℕ) → occurs m xs ≤ 1) → ((m : ℕ) → In m xs → m < n) → length xs ≤ n
few-below zero [] once below = omega arith
few-below zero (x ∷ xs) once below = absurd (omega (arith, below x (occurs-head x xs)))
few-below (suc n) xs once below = by (occurs n xs) refl (λ ms one less_than. few-below n ms one less_than)
  where
    by : (k : ℕ) → occurs n xs ≡ k → ((ms : List ℕ) → ((m : ℕ) → occurs m ms ≤ 1) → ((m : ℕ) → In m ms → m < n) → length ms ≤ n) → length xs ≤ suc n
    by zero e shorter =
        let others : (m : ℕ) → In m xs → m < n = λ m h. ⊎_elim
        (λ (same : m ≡ n). absurd (let none : occurs m xs ≡ 0 = ap (λ j. occurs j xs) same ∙ e in omega (arith, h, none)))
        (λ (ne : m ≢ n). omega (arith, below m h, ne))
        (eq_or m n) in
        omega (arith, shorter xs once others)
    by (suc k) e shorter =
        let here : In n xs = omega (arith, e) in
        let others : (m : ℕ) → In m (less n xs) → m < n = λ m h.
        let was : occurs m xs ≡ cond (eqb m n) 1 0 + occurs m (less n xs) = occurs-less m n xs here in
        ⊎_elim
        (λ (same : m ≡ n). absurd (let gone : In n (less n xs) = subst (λ j. In j (less n xs)) same h in omega (arith, gone, less-same n xs here, once n)))
        (λ (ne : m ≢ n). omega (arith, below m (omega (arith, h, was)), ne))
        (eq_or m n) in
        let rest : length (less n xs) ≤ n = shorter (less n xs) (λ m. omega (arith, once m, occurs-less m n xs here)) others in
        omega (arith, rest, length-sum xs, sum-less (λ _. 1) n xs here, length-sum (less n xs))

module _ (T : Table) (B : Forest) (w : Whole T B) where
  -- along document order a sum is that of the table
  sum-order : (f : ℕ → ℕ) (g : Facts → ℕ) → ((n : ℕ) (node : Facts) → entry_at T n ≡ Some node → f n ≡ g node) → sum_by f (order T) ≡ table_sum g T
  sum-order f g same =
      ap (sum_by f) (order-flat T B w)
      ∙ along f g T 0 (0 ∷ flat B) (λ n node e. ap f (omega arith) ∙ same n node e) (λ n. ap (λ m. occurs m (0 ∷ flat B)) (omega arith) ∙ w.once n) (λ n h. absurd (omega (arith, h)))

  -- so many nodes live, with so many bytes of text
  pub live-count : length (order T) ≡ count_live T
  live-count = length-sum (order T) ∙ sum-order (λ _. 1) (λ _. 1) (λ n node e. refl)

  pub text-count : text_bytes T ≡ text_held T
  text-count = sum-order (λ n. length (value_of T n)) text_in (λ n node e. ap (λ o. length (value_at (content_at o))) e)
