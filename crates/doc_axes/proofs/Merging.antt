-- Lists that keep some of another list's numbers in their order, put together.
use Rattle.std.proofs.Common.{◌≡◌, ◌≢◌, ℕ, Bool, true, false, cond, ◌||◌, ◌&&◌, List, [], ◌∷◌, ◌++◌, ◌⊎◌, eqb, inl, inr, refl, sym, ap, ap₂, ◌∙◌, subst, true≢false, arith, ne_eqb, eqb-true, eq-eqb}
use Rattle.std.specs.Prelude.{filter}
use Rattle.std.proofs.Math.Bool.{and-true, and-false}
use Rattle.doc_tree.specs.Lists.{mem, occurs, Distinct}
use Rattle.doc_tree.specs.Order.{after}
use Rattle.doc_tree.proofs.ListLemmas.{In, In-mem, mem-In, In-cons, none-mem, occurs-append, occurs-head, occurs-same, mem-head}
use Rattle.doc_axes.proofs.SubLists.{Sub, done, skip, keep, sub-one, sub-occurs, filter-same}

-- a filter at a list's first number
filter-skip : (p : ℕ → Bool) (o : ℕ) (O : List ℕ) → p o ≡ false → filter p (o ∷ O) ≡ filter p O
filter-skip p o O e = rw e refl

filter-keep : (p : ℕ → Bool) (o : ℕ) (O : List ℕ) → p o ≡ true → filter p (o ∷ O) ≡ o ∷ filter p O
filter-keep p o O e = rw e refl

pub sub-filter : (p : ℕ → Bool) (xs : List ℕ) → Sub (filter p xs) xs
sub-filter p [] = done
sub-filter p (x ∷ xs) = by (p x) (sub-filter p xs)
  where
    by : (b : Bool) → Sub (filter p xs) xs → Sub (cond b (x ∷ filter p xs) (filter p xs)) (x ∷ xs)
    by true s = keep s
    by false s = skip s

pub sub-in : {xs ys : List ℕ} (m : ℕ) → Sub xs ys → In m xs → In m ys
sub-in m s h = omega (arith, h, sub-occurs m s)

-- what holds after the first number of a list without repeats
rest_once : (o : ℕ) (O : List ℕ) → Distinct (o ∷ O) → Distinct O
rest_once o O once = λ m. omega (arith, once m)

none-behind : (o : ℕ) (O : List ℕ) → Distinct (o ∷ O) → occurs o O ≡ 0
none-behind o O once = omega (arith, once o, occurs-same o O)

not_kept : (o : ℕ) (xs O : List ℕ) → Distinct (o ∷ O) → Sub xs O → mem o xs ≡ false
not_kept o xs O once s = none-mem o xs (omega (arith, sub-occurs o s, none-behind o O once))

differs : (m o : ℕ) (O : List ℕ) → Distinct (o ∷ O) → In m O → m ≢ o
differs m o O once h = λ e. absurd (let g : In o O = subst (λ q. In q O) e h in omega (arith, g, none-behind o O once))

pub sub-tail : (O : List ℕ) (x : ℕ) (xs : List ℕ) → Sub (x ∷ xs) O → Sub xs O
sub-tail [] x xs s = elim s [ ]
sub-tail (o ∷ O) x xs (skip s) = skip (sub-tail O x xs s)
sub-tail (o ∷ O) x xs (keep s) = skip s

-- where two such lists begin with one number, it is the first of what is in either, and comes once
pub heads_once : (O : List ℕ) (x z : ℕ) (xs zs : List ℕ) → x ≡ z → Distinct O → Sub (x ∷ xs) O → Sub (z ∷ zs) O →
    filter (λ m. mem m (x ∷ xs) || mem m (z ∷ zs)) O ≡ x ∷ filter (λ m. mem m xs || mem m zs) O
heads_once [] x z xs zs e once s t = elim s [ ]
heads_once (o ∷ O) x z xs zs e once (skip s) (skip t) =
    filter-skip (λ m. mem m (x ∷ xs) || mem m (z ∷ zs)) o O (ap₂ (λ a b. a || b) (not_kept o (x ∷ xs) O once s) (not_kept o (z ∷ zs) O once t))
    ∙ (heads_once O x z xs zs e (rest_once o O once) s t
    ∙ ap (λ l. x ∷ l) (sym (filter-skip (λ m. mem m xs || mem m zs) o O
    (ap₂ (λ a b. a || b) (not_kept o xs O once (sub-tail O x xs s)) (not_kept o zs O once (sub-tail O z zs t))))))
heads_once (o ∷ O) x z xs zs e once (skip s) (keep t) = absurd (differs x o O once (sub-in x s (occurs-head x xs)) e)
heads_once (o ∷ O) x z xs zs e once (keep s) (skip t) = absurd (differs z o O once (sub-in z t (occurs-head z zs)) (sym e))
heads_once (o ∷ O) x z xs zs e once (keep s) (keep t) =
    filter-keep (λ m. mem m (o ∷ xs) || mem m (o ∷ zs)) o O (ap (λ b. b || mem o (o ∷ zs)) (mem-head o xs))
    ∙ ap (λ l. o ∷ l)
    (filter-same (λ m. mem m (o ∷ xs) || mem m (o ∷ zs)) (λ m. mem m xs || mem m zs) O
    (λ m h. ap (λ b. (b || mem m xs) || (b || mem m zs)) (ne_eqb m o (differs m o O once h)))
    ∙ sym (filter-skip (λ m. mem m xs || mem m zs) o O (ap₂ (λ a b. a || b) (not_kept o xs O once s) (not_kept o zs O once t))))

-- a number put before such a list, whose first it comes before
pub pair-cons : (O : List ℕ) (x y : ℕ) (ys : List ℕ) → Distinct O → Sub (x ∷ y ∷ []) O → Sub (y ∷ ys) O → Sub (x ∷ y ∷ ys) O
pair-cons [] x y ys once r t = elim t [ ]
pair-cons (o ∷ O) x y ys once (skip r) (skip t) = skip (pair-cons O x y ys (rest_once o O once) r t)
pair-cons (o ∷ O) x y ys once (keep r) (skip t) = keep t
pair-cons (o ∷ O) x y ys once (skip r) (keep t) = absurd (differs o o O once (sub-in o r (omega (arith, occurs-head o []))) refl)
pair-cons (o ∷ O) x y ys once (keep r) (keep t) = absurd (differs o o O once (sub-in o r (occurs-head o [])) refl)

last-in : (front : List ℕ) (x : ℕ) → In x (front ++ x ∷ [])
last-in front x = omega (arith, occurs-append x front (x ∷ []), occurs-head x [])

-- two such lists, where the last of the first begins the second
pub chained : (O front : List ℕ) (x : ℕ) (zs : List ℕ) → Distinct O → Sub (front ++ x ∷ []) O → Sub (x ∷ zs) O → Sub (front ++ x ∷ zs) O
chained [] front x zs once s t = elim t [ ]
chained (o ∷ O) [] x zs once s t = t
chained (o ∷ O) (a ∷ front) x zs once (skip s) (skip t) = skip (chained O (a ∷ front) x zs (rest_once o O once) s t)
chained (o ∷ O) (a ∷ front) x zs once (keep s) (skip t) = keep (chained O front x zs (rest_once o O once) s t)
chained (o ∷ O) (a ∷ front) x zs once (skip s) (keep t) = absurd (differs o o O once (sub-in o s (last-in (a ∷ front) o)) refl)
chained (o ∷ O) (a ∷ front) x zs once (keep s) (keep t) = absurd (differs o o O once (sub-in o s (last-in front o)) refl)

-- a number and one that stands after it
pub pair_kept : (O : List ℕ) (x y : ℕ) → mem y (after x O) ≡ true → Sub (x ∷ y ∷ []) O
pair_kept [] x y h = absurd (true≢false (sym h))
pair_kept (o ∷ O) x y h = by (eqb x o) refl h (pair_kept O x y)
  where
    by : (b : Bool) → eqb x o ≡ b → mem y (cond b O (after x O)) ≡ true → (mem y (after x O) ≡ true → Sub (x ∷ y ∷ []) O) → Sub (x ∷ y ∷ []) (o ∷ O)
    by true e h more = subst (λ k. Sub (x ∷ y ∷ []) (k ∷ O)) (eqb-true x o e) (keep (sub-one y O (mem-In y O h)))
    by false e h more = skip (more h)

-- where of two different numbers the second doesn't stand after the first, it is the other way
pub pair_turned : (O : List ℕ) (x y : ℕ) → In x O → In y O → x ≢ y → mem y (after x O) ≡ false → Sub (y ∷ x ∷ []) O
pair_turned [] x y hx hy ne h = absurd (omega arith)
pair_turned (o ∷ O) x y hx hy ne h = by (eqb x o) refl h (In-cons x o O hx) (In-cons y o O hy) (λ kx ky k. pair_turned O x y kx ky ne k)
  where
    by : (b : Bool) → eqb x o ≡ b → mem y (cond b O (after x O)) ≡ false → (x ≡ o) ⊎ In x O → (y ≡ o) ⊎ In y O
        → (In x O → In y O → mem y (after x O) ≡ false → Sub (y ∷ x ∷ []) O) → Sub (y ∷ x ∷ []) (o ∷ O)
    by true e h cx (inl same) more = absurd (ne (eqb-true x o e ∙ sym same))
    by true e h cx (inr ky) more = absurd (true≢false (sym (In-mem y O ky) ∙ h))
    by false e h (inl same) cy more = absurd (true≢false (sym (eq-eqb x o same) ∙ e))
    by false e h (inr kx) (inl same) more = subst (λ k. Sub (y ∷ x ∷ []) (k ∷ O)) same (keep (sub-one x O kx))
    by false e h (inr kx) (inr ky) more = skip (more kx ky h)

-- what is in a list by a filter
mem-filter : (p : ℕ → Bool) (m : ℕ) (xs : List ℕ) → mem m (filter p xs) ≡ (p m && mem m xs)
mem-filter p m [] = sym (and-false (p m))
mem-filter p m (x ∷ xs) = by (p x) (eqb m x) refl refl (mem-filter p m xs)
  where
    by : (b e : Bool) → p x ≡ b → eqb m x ≡ e → mem m (filter p xs) ≡ (p m && mem m xs) → mem m (cond b (x ∷ filter p xs) (filter p xs)) ≡ (p m && (e || mem m xs))
    by true true eb ee more = ap (λ k. k || mem m (filter p xs)) ee ∙ sym (ap (λ k. k && true) (ap p (eqb-true m x ee) ∙ eb))
    by true false eb ee more = ap (λ k. k || mem m (filter p xs)) ee ∙ more
    by false true eb ee more =
        let out : p m ≡ false = ap p (eqb-true m x ee) ∙ eb in
        more ∙ (ap (λ k. k && mem m xs) out ∙ sym (ap (λ k. k && true) out))
    by false false eb ee more = more

pub kept : (p : ℕ → Bool) (m : ℕ) (xs : List ℕ) → In m xs → mem m (filter p xs) ≡ p m
kept p m xs h = mem-filter p m xs ∙ (ap (λ k. p m && k) (In-mem m xs h) ∙ and-true (p m))
