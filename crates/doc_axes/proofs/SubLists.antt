-- Lists that keep some of another list's numbers in their order, filters, and lists from their end.
use Rattle.std.proofs.Common.{◌≡◌, ℕ, ◌≤◌, Bool, true, false, cond, ◌||◌, List, [], ◌∷◌, ◌++◌, eqb, refl, sym, ap, ◌∙◌, subst, arith, append_assoc, append-nil, ne_eqb, eqb-true}
use Rattle.std.specs.Prelude.{filter}
use Rattle.doc_tree.specs.Lists.{mem, occurs, Distinct}
use Rattle.doc_tree.proofs.ListLemmas.{In, In-mem, mem-In, none-mem, occurs-append, occurs-head, occurs-same, mem-head}
use Rattle.std.specs.Prelude.{reverse}
use Rattle.sch_base.proofs.Lists.{reverse-cons}
use Rattle.doc_axes.specs.Axes.{backwards}

-- the first list keeps some of the second
pub data Sub : List ℕ → List ℕ → Type 0 where
  done : Sub [] []
  skip : {x : ℕ} {xs ys : List ℕ} → Sub xs ys → Sub xs (x ∷ ys)
  keep : {x : ℕ} {xs ys : List ℕ} → Sub xs ys → Sub (x ∷ xs) (x ∷ ys)

pub sub-none : (ys : List ℕ) → Sub [] ys
sub-none [] = done
sub-none (y ∷ ys) = skip (sub-none ys)

pub sub-all : (ys : List ℕ) → Sub ys ys
sub-all [] = done
sub-all (y ∷ ys) = keep (sub-all ys)

pub sub-append : {a b xs ys : List ℕ} → Sub a xs → Sub b ys → Sub (a ++ b) (xs ++ ys)
sub-append done t = t
sub-append (skip s) t = skip (sub-append s t)
sub-append (keep s) t = keep (sub-append s t)

pub sub-front : {a xs : List ℕ} (ys : List ℕ) → Sub a xs → Sub a (xs ++ ys)
sub-front {a} {xs} ys s = subst (λ l. Sub l (xs ++ ys)) (append-nil a) (sub-append s (sub-none ys))

pub sub-back : {a ys : List ℕ} (xs : List ℕ) → Sub a ys → Sub a (xs ++ ys)
sub-back xs s = sub-append (sub-none xs) s

pub sub-occurs : {xs ys : List ℕ} (m : ℕ) → Sub xs ys → occurs m xs ≤ occurs m ys
sub-occurs m done = omega arith
sub-occurs m (skip s) = omega (arith, sub-occurs m s)
sub-occurs m (keep s) = omega (arith, sub-occurs m s)

pub sub-one : (n : ℕ) (xs : List ℕ) → In n xs → Sub (n ∷ []) xs
sub-one n [] h = absurd (omega arith)
sub-one n (x ∷ xs) h = by (eqb n x) refl (λ k. sub-one n xs k)
  where
    by : (b : Bool) → eqb n x ≡ b → (In n xs → Sub (n ∷ []) xs) → Sub (n ∷ []) (x ∷ xs)
    by true e more = subst (λ k. Sub (n ∷ []) (k ∷ xs)) (eqb-true n x e) (keep (sub-none xs))
    by false e more = skip (more (let k = rw e at h in omega (arith, k)))

-- in a list without repeats, a filter for the numbers of a sublist gives it
pub filter-sub : {ys xs : List ℕ} (p : ℕ → Bool) → Sub ys xs → Distinct xs → ((m : ℕ) → In m xs → p m ≡ mem m ys) → filter p xs ≡ ys
filter-sub p done once h = refl
filter-sub p (skip {x = x} {xs = ys} {ys = xs} s) once h =
    let none : occurs x xs ≡ 0 = omega (arith, once x, occurs-same x xs) in
    let out : p x ≡ false = h x (occurs-head x xs) ∙ none-mem x ys (omega (arith, sub-occurs x s, none)) in
    rw out (filter-sub p s (λ m. omega (arith, once m)) (λ m k. h m (omega (arith, k))))
filter-sub p (keep {x = x} {xs = ys} {ys = xs} s) once h =
    let none : occurs x xs ≡ 0 = omega (arith, once x, occurs-same x xs) in
    let kept : p x ≡ true = h x (occurs-head x xs) ∙ mem-head x ys in
    rw kept (ap (λ l. x ∷ l) (filter-sub p s (λ m. omega (arith, once m))
    (λ m k. h m (omega (arith, k)) ∙ ap (λ b. b || mem m ys) (ne_eqb m x (λ e. absurd (let g : In x xs = subst (λ q. In q xs) e k in omega (arith, g, none)))))))

pub filter-append : (p : ℕ → Bool) (xs ys : List ℕ) → filter p (xs ++ ys) ≡ filter p xs ++ filter p ys
filter-append p [] ys = refl
filter-append p (x ∷ xs) ys = by (p x) (filter-append p xs ys)
  where
    by : (b : Bool) → filter p (xs ++ ys) ≡ filter p xs ++ filter p ys → cond b (x ∷ filter p (xs ++ ys)) (filter p (xs ++ ys)) ≡ cond b (x ∷ filter p xs) (filter p xs) ++ filter p ys
    by true e = ap (λ l. x ∷ l) e
    by false e = e

pub filter-none : (p : ℕ → Bool) (xs : List ℕ) → ((m : ℕ) → In m xs → p m ≡ false) → filter p xs ≡ []
filter-none p [] h = refl
filter-none p (x ∷ xs) h = rw (h x (occurs-head x xs)) (filter-none p xs (λ m k. h m (omega (arith, k))))

pub filter-same : (p q : ℕ → Bool) (xs : List ℕ) → ((m : ℕ) → In m xs → p m ≡ q m) → filter p xs ≡ filter q xs
filter-same p q [] h = refl
filter-same p q (x ∷ xs) h = rw (h x (occurs-head x xs), filter-same p q xs (λ m k. h m (omega (arith, k)))) refl

pub backwards-append : (xs ys : List ℕ) → backwards (xs ++ ys) ≡ backwards ys ++ backwards xs
backwards-append [] ys = sym (append-nil (backwards ys))
backwards-append (x ∷ xs) ys = ap (λ l. l ++ x ∷ []) (backwards-append xs ys) ∙ append_assoc (backwards ys) (backwards xs) (x ∷ [])

pub backwards-twice : (xs : List ℕ) → backwards (backwards xs) ≡ xs
backwards-twice [] = refl
backwards-twice (x ∷ xs) = backwards-append (backwards xs) (x ∷ []) ∙ ap (λ l. x ∷ l) (backwards-twice xs)

-- a list from its end, as std says it
pub backwards_reverse : (xs : List ℕ) → reverse xs ≡ backwards xs
backwards_reverse [] = refl
backwards_reverse (x ∷ xs) = reverse-cons x xs ∙ ap (λ l. l ++ x ∷ []) (backwards_reverse xs)

pub occurs-backwards : (m : ℕ) (xs : List ℕ) → occurs m (backwards xs) ≡ occurs m xs
occurs-backwards m [] = refl
occurs-backwards m (x ∷ xs) = omega (arith, occurs-append m (backwards xs) (x ∷ []), occurs-backwards m xs)

-- two lists with the same numbers have the same members
pub mem-same : (m : ℕ) (xs ys : List ℕ) → occurs m xs ≡ occurs m ys → mem m xs ≡ mem m ys
mem-same m xs ys e = by (mem m xs) (mem m ys) refl refl
  where
    by : (s t : Bool) → mem m xs ≡ s → mem m ys ≡ t → s ≡ t
    by true true hs ht = refl
    by false false hs ht = refl
    by true false hs ht = absurd (let k : In m ys = (let i : In m xs = mem-In m xs hs in omega (arith, i, e)) in cc (In-mem m ys k))
    by false true hs ht = absurd (let k : In m xs = (let i : In m ys = mem-In m ys ht in omega (arith, i, e)) in cc (In-mem m xs k))

pub mem-append_is : (m : ℕ) (xs ys : List ℕ) → mem m (xs ++ ys) ≡ (mem m xs || mem m ys)
mem-append_is m [] ys = refl
mem-append_is m (x ∷ xs) ys = by (eqb m x) (mem-append_is m xs ys)
  where
    by : (b : Bool) → mem m (xs ++ ys) ≡ (mem m xs || mem m ys) → (b || mem m (xs ++ ys)) ≡ ((b || mem m xs) || mem m ys)
    by true e = refl
    by false e = e
