-- Where the numbers are in document order, after a number stand just the greater ones.
use Rattle.std.proofs.Common.{◌≡◌, ◌≢◌, ℕ, ◌<◌, ◌≤◌, suc, zero, Bool, true, false, cond, ◌||◌, List, [], ◌∷◌, ◌++◌, length, refl, sym, ap, ap₂, ◌∙◌, ⊎_elim, true≢false, arith, eqb, ltb, subst, eq-eqb, ne_eqb, length-append}
use Rattle.std.proofs.Math.Bool.{or-true, or-false}
use Rattle.std.proofs.lemmas.Bool.{cases_lt, le-ltb, lt-ltb}
use Rattle.doc_table.specs.Lists.{mem, occurs, upto}
use Rattle.doc_table.specs.Table.{Table, is_live}
use Rattle.doc_table.specs.Order.{after, is_before}
use Rattle.doc_table.specs.InOrder.{IsInOrder}
use Rattle.doc_table.proofs.ListLemmas.{In, In-mem, none-mem, eq_or, occurs-append, occurs-other, occurs-same}
use Rattle.doc_table.proofs.Ways.{live-below}

-- the numbers below a number: each once, and no other
pub upto-length : (n : ℕ) → length (upto n) ≡ n
upto-length zero = refl
upto-length (suc n) = length-append (upto n) (n ∷ []) ∙ omega (arith, upto-length n)

pub upto-past : (m n : ℕ) → n ≤ m → occurs m (upto n) ≡ 0
upto-past m zero h = refl
upto-past m (suc n) h =
    occurs-append m (upto n) (n ∷ []) ∙ omega (arith, upto-past m n (omega arith), occurs-other m n [] (λ e. absurd (omega arith)))

pub upto-once : (m n : ℕ) → m < n → occurs m (upto n) ≡ 1
upto-once m zero h = absurd (omega arith)
upto-once m (suc n) h =
    occurs-append m (upto n) (n ∷ [])
    ∙ ⊎_elim (λ (e : m ≡ n). omega (arith, upto-past m n (omega arith), subst (λ k. occurs m (k ∷ []) ≡ 1) e (occurs-same m [])))
    (λ (ne : m ≢ n). omega (arith, upto-once m n (omega arith), occurs-other m n [] ne))
    (eq_or m n)

after-front : (a : ℕ) (xs ys : List ℕ) → mem a xs ≡ true → after a (xs ++ ys) ≡ after a xs ++ ys
after-front a [] ys h = absurd (true≢false (sym h))
after-front a (x ∷ xs) ys h = by (eqb a x) h (after-front a xs ys)
  where
    by : (b : Bool) → (b || mem a xs) ≡ true → (mem a xs ≡ true → after a (xs ++ ys) ≡ after a xs ++ ys) → cond b (xs ++ ys) (after a (xs ++ ys)) ≡ cond b xs (after a xs) ++ ys
    by true h more = refl
    by false h more = more h

after-back : (a : ℕ) (xs ys : List ℕ) → mem a xs ≡ false → after a (xs ++ ys) ≡ after a ys
after-back a [] ys h = refl
after-back a (x ∷ xs) ys h = by (eqb a x) h (after-back a xs ys)
  where
    by : (b : Bool) → (b || mem a xs) ≡ false → (mem a xs ≡ false → after a (xs ++ ys) ≡ after a ys) → cond b (xs ++ ys) (after a (xs ++ ys)) ≡ after a ys
    by true h more = absurd (true≢false h)
    by false h more = more h

mem-both : (b : ℕ) (xs ys : List ℕ) → mem b (xs ++ ys) ≡ (mem b xs || mem b ys)
mem-both b [] ys = refl
mem-both b (x ∷ xs) ys = by (eqb b x) (mem-both b xs ys)
  where
    by : (t : Bool) → mem b (xs ++ ys) ≡ (mem b xs || mem b ys) → (t || mem b (xs ++ ys)) ≡ ((t || mem b xs) || mem b ys)
    by true more = refl
    by false more = more

after-upto : (a b n : ℕ) → b < n → mem b (after a (upto n)) ≡ ltb a b
after-upto a b zero h = absurd (omega arith)
after-upto a b (suc n) h = ⊎_elim
    (λ (less : a < n).
    let one : In a (upto n) = omega (arith, upto-once a n less) in
    let split : mem b (after a (upto n ++ n ∷ [])) ≡ (mem b (after a (upto n)) || mem b (n ∷ [])) =
    ap (mem b) (after-front a (upto n) (n ∷ []) (In-mem a (upto n) one)) ∙ mem-both b (after a (upto n)) (n ∷ []) in
    ⊎_elim
    (λ (e : b ≡ n).
    let here : mem b (n ∷ []) ≡ true = ap (λ t. t || false) (eq-eqb b n e) in
    split ∙ (ap (λ t. mem b (after a (upto n)) || t) here ∙ (or-true (mem b (after a (upto n))) ∙ sym (lt-ltb a b (omega (arith, less, e))))))
    (λ (ne : b ≢ n).
    let none : mem b (n ∷ []) ≡ false = ap (λ t. t || false) (ne_eqb b n ne) in
    split ∙ (ap₂ (λ s t. s || t) (after-upto a b n (omega (arith, h, ne))) none ∙ or-false (ltb a b)))
    (eq_or b n))
    (λ (past : n ≤ a).
    let gone : after a (n ∷ []) ≡ [] = by (eqb a n) in
    ap (mem b) (after-back a (upto n) (n ∷ []) (none-mem a (upto n) (upto-past a n past)) ∙ gone) ∙ sym (le-ltb a b (omega (arith, h, past))))
    (cases_lt a n)
  where
    by : (t : Bool) → cond {A = List ℕ} t [] [] ≡ []
    by true = refl
    by false = refl

pub order-by-number : (T : Table) → IsInOrder T → (a b : ℕ) → is_live T b ≡ true → is_before T a b ≡ ltb a b
order-by-number T numbered a b live = ap (λ l. mem b (after a l)) numbered ∙ after-upto a b (length T) (live-below T b live)
