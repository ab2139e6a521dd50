-- Filters of lists, and tests whether some number of a list passes.
use Rattle.std.proofs.Common.{◌≡◌, ℕ, ◌+◌, ◌<◌, ◌++◌, length, take, get_or, Bool, true, false, cond, ◌||◌, ◌&&◌, List, [], ◌∷◌, eqb, Option, None, Some, refl, sym, ap, ◌∙◌, true≢false, eqb-true, eq-eqb}
use Rattle.std.proofs.lemmas.List.{take_more}
use Rattle.std.proofs.lemmas.List.Elements.{filter_map-append}
use Rattle.std.specs.Prelude.{filter}
use Rattle.std.specs.List.{list_any, filter_map, cons_option}
use Rattle.doc_tree.specs.Lists.{mem}

pub iff : (a b : Bool) → (a ≡ true → b ≡ true) → (b ≡ true → a ≡ true) → a ≡ b
iff true b f g = sym (f refl)
iff false true f g = g refl
iff false false f g = refl

pub and-false : (b : Bool) → (b && false) ≡ false
and-false true = refl
and-false false = refl

pub and-true : (b : Bool) → (b && true) ≡ b
and-true true = refl
and-true false = refl

pub or-false : (b : Bool) → (b || false) ≡ b
or-false true = refl
or-false false = refl

or-both : (a b c : Bool) → (a || (b || c)) ≡ ((a || b) || (a || c))
or-both true b c = refl
or-both false b c = refl

pub or-left : (a b c : Bool) → (a || (b || c)) ≡ ((a || b) || c)
or-left true b c = refl
or-left false b c = refl

or-right : (a b c : Bool) → (a || (b || c)) ≡ (b || (a || c))
or-right true true c = refl
or-right true false c = refl
or-right false b c = refl

or-again : (a m : Bool) → (a || (m && a)) ≡ a
or-again true m = refl
or-again false true = refl
or-again false false = refl

pub eqb-turned : (m n : ℕ) → eqb m n ≡ eqb n m
eqb-turned m n = iff (eqb m n) (eqb n m) (λ h. eq-eqb n m (sym (eqb-true m n h))) (λ h. eq-eqb m n (sym (eqb-true n m h)))

pub any-same : (p q : ℕ → Bool) (xs : List ℕ) → ((m : ℕ) → p m ≡ q m) → list_any p xs ≡ list_any q xs
any-same p q [] h = refl
any-same p q (x ∷ xs) h = rw (h x, any-same p q xs h) refl

pub any-none : (p : ℕ → Bool) (xs : List ℕ) → ((m : ℕ) → p m ≡ false) → list_any p xs ≡ false
any-none p [] h = refl
any-none p (x ∷ xs) h = rw (h x) (any-none p xs h)

-- some number that passes one test or the other
pub any-either : (r p q : ℕ → Bool) (xs : List ℕ) → list_any r (filter (λ k. p k || q k) xs) ≡ (list_any r (filter p xs) || list_any r (filter q xs))
any-either r p q [] = refl
any-either r p q (x ∷ xs) = by (p x) (q x) (any-either r p q xs)
  where
    by : (a b : Bool) → list_any r (filter (λ k. p k || q k) xs) ≡ (list_any r (filter p xs) || list_any r (filter q xs)) →
        list_any r (cond (a || b) (x ∷ filter (λ k. p k || q k) xs) (filter (λ k. p k || q k) xs))
        ≡ (list_any r (cond a (x ∷ filter p xs) (filter p xs)) || list_any r (cond b (x ∷ filter q xs) (filter q xs)))
    by true true e = ap (λ l. r x || l) e ∙ or-both (r x) (list_any r (filter p xs)) (list_any r (filter q xs))
    by true false e = ap (λ l. r x || l) e ∙ or-left (r x) (list_any r (filter p xs)) (list_any r (filter q xs))
    by false true e = ap (λ l. r x || l) e ∙ or-right (r x) (list_any r (filter p xs)) (list_any r (filter q xs))
    by false false e = e

-- some number passes both tests
pub any-swap : (p q : ℕ → Bool) (xs : List ℕ) → list_any p (filter q xs) ≡ list_any q (filter p xs)
any-swap p q [] = refl
any-swap p q (x ∷ xs) = by (p x) (q x) refl refl (any-swap p q xs)
  where
    by : (a b : Bool) → p x ≡ a → q x ≡ b → list_any p (filter q xs) ≡ list_any q (filter p xs) → list_any p (filter q (x ∷ xs)) ≡ list_any q (filter p (x ∷ xs))
    by true true ea eb e = rw (ea, eb, ea) refl
    by true false ea eb e = rw (ea, eb) e
    by false true ea eb e = rw (ea, eb) (rw ea e)
    by false false ea eb e = rw (ea, eb) e

pub filter-swap : (p q : ℕ → Bool) (xs : List ℕ) → filter p (filter q xs) ≡ filter q (filter p xs)
filter-swap p q [] = refl
filter-swap p q (x ∷ xs) = by (p x) (q x) refl refl (filter-swap p q xs)
  where
    by : (a b : Bool) → p x ≡ a → q x ≡ b → filter p (filter q xs) ≡ filter q (filter p xs) → filter p (filter q (x ∷ xs)) ≡ filter q (filter p (x ∷ xs))
    by true true ea eb e = rw (ea, eb, ea) (ap (λ l. x ∷ l) e)
    by true false ea eb e = rw (ea, eb) e
    by false true ea eb e = rw (ea, eb) (rw ea e)
    by false false ea eb e = rw (ea, eb) e

-- a wider test before
pub filter-narrow : (p q : ℕ → Bool) (xs : List ℕ) → ((m : ℕ) → p m ≡ true → q m ≡ true) → filter p (filter q xs) ≡ filter p xs
filter-narrow p q [] h = refl
filter-narrow p q (x ∷ xs) h = by (p x) (q x) refl refl (filter-narrow p q xs h)
  where
    by : (a b : Bool) → p x ≡ a → q x ≡ b → filter p (filter q xs) ≡ filter p xs → filter p (filter q (x ∷ xs)) ≡ filter p (x ∷ xs)
    by true true ea eb e = rw (ea, eb) (rw ea (ap (λ l. x ∷ l) e))
    by true false ea eb e = absurd (true≢false (sym (h x ea) ∙ eb))
    by false true ea eb e = rw (ea, eb) (rw ea e)
    by false false ea eb e = rw (ea, eb) e

-- a test that only one number can pass
pub any-one : (f : ℕ → Bool) (p : ℕ) (c : Bool) (xs : List ℕ) → list_any (λ x. f x && (eqb x p && c)) xs ≡ (mem p xs && (f p && c))
any-one f p c [] = refl
any-one f p c (x ∷ xs) = by (eqb x p) refl (any-one f p c xs)
  where
    by : (b : Bool) → eqb x p ≡ b → list_any (λ x. f x && (eqb x p && c)) xs ≡ (mem p xs && (f p && c)) →
        ((f x && (b && c)) || list_any (λ x. f x && (eqb x p && c)) xs) ≡ ((eqb p x || mem p xs) && (f p && c))
    by true e more = rw (eq-eqb p x (sym (eqb-true x p e)), eqb-true x p e, more) (or-again (f p && c) (mem p xs))
    by false e more = rw (eqb-turned p x ∙ e, and-false (f x)) more

-- a number that a filter leaves out
pub mem-out : (q : ℕ → Bool) (n : ℕ) (xs : List ℕ) → q n ≡ false → mem n (filter q xs) ≡ false
mem-out q n [] h = refl
mem-out q n (x ∷ xs) h = by (q x) refl (mem-out q n xs h)
  where
    by : (b : Bool) → q x ≡ b → mem n (filter q xs) ≡ false → mem n (cond b (x ∷ filter q xs) (filter q xs)) ≡ false
    by true e more = apart (eqb n x) refl
      where
        apart : (d : Bool) → eqb n x ≡ d → (d || mem n (filter q xs)) ≡ false
        apart true same = absurd (true≢false (sym e ∙ (ap q (sym (eqb-true n x same)) ∙ h)))
        apart false same = more
    by false e more = more

-- a number that passes a test in a list
pub record Found (p : ℕ → Bool) (xs : List ℕ) : Type 0 where
  pub at : ℕ
  pub listed : mem at xs ≡ true
  pub passes : p at ≡ true

pub found : (p : ℕ → Bool) (xs : List ℕ) → list_any p xs ≡ true → Found p xs
found p [] h = absurd (true≢false (sym h))
found p (x ∷ xs) h = by (p x) refl h (λ k. found p xs k)
  where
    by : (b : Bool) → p x ≡ b → (b || list_any p xs) ≡ true → (list_any p xs ≡ true → Found p xs) → Found p (x ∷ xs)
    by true e k more = record { at = x; listed = rw (eq-eqb x x refl) refl; passes = e }
    by false e k more =
        let f : Found p xs = more k in
        let r : Found p (x ∷ xs) = record { at = f.at; listed = later (eqb f.at x) (mem f.at xs) f.listed; passes = f.passes } in
        r
      where
        later : (a b : Bool) → b ≡ true → (a || b) ≡ true
        later true b e = refl
        later false b e = e

-- a number that a filter leaves passes its test
pub kept-passes : (q : ℕ → Bool) (n : ℕ) (xs : List ℕ) → mem n (filter q xs) ≡ true → q n ≡ true
kept-passes q n xs h = by (q n) refl
  where
    by : (b : Bool) → q n ≡ b → b ≡ true
    by true e = refl
    by false e = absurd (true≢false (sym h ∙ mem-out q n xs e))

-- and stands in the list
pub kept-listed : (q : ℕ → Bool) (n : ℕ) (xs : List ℕ) → mem n (filter q xs) ≡ true → mem n xs ≡ true
kept-listed q n [] h = h
kept-listed q n (x ∷ xs) h = by (q x) (eqb n x) refl (kept-listed q n xs) h
  where
    by : (b d : Bool) → eqb n x ≡ d → (mem n (filter q xs) ≡ true → mem n xs ≡ true) → mem n (cond b (x ∷ filter q xs) (filter q xs)) ≡ true → (d || mem n xs) ≡ true
    by b true e more k = refl
    by true false e more k = more (rw e at k)
    by false false e more k = more k

-- what a partial function gives of some number passes a test
pub any-given : (p : ℕ → Bool) (f : Option ℕ → Bool) (h : ℕ → Option ℕ) (xs : List ℕ) → f None ≡ false → ((m : ℕ) → f (Some m) ≡ p m) →
    list_any p (filter_map h xs) ≡ list_any (λ k. f (h k)) xs
any-given p f h [] none some = refl
any-given p f h (x ∷ xs) none some = by (h x) (any-given p f h xs none some)
  where
    by : (o : Option ℕ) → list_any p (filter_map h xs) ≡ list_any (λ k. f (h k)) xs → list_any p (cons_option o (filter_map h xs)) ≡ (f o || list_any (λ k. f (h k)) xs)
    by None e = rw none e
    by (Some m) e = rw (some m, e) refl

-- a number that a partial function gives of some number
pub record Given (h : ℕ → Option ℕ) (p : ℕ) (xs : List ℕ) : Type 0 where
  pub source : ℕ
  pub listed : mem source xs ≡ true
  pub gives : h source ≡ Some p

given-later : (h : ℕ → Option ℕ) (p x : ℕ) (xs : List ℕ) → Given h p xs → Given h p (x ∷ xs)
given-later h p x xs g = record { source = g.source; listed = later (eqb g.source x) (mem g.source xs) g.listed; gives = g.gives }
  where
    later : (a b : Bool) → b ≡ true → (a || b) ≡ true
    later true b e = refl
    later false b e = e

pub given : (h : ℕ → Option ℕ) (p : ℕ) (xs : List ℕ) → mem p (filter_map h xs) ≡ true → Given h p xs
given h p [] e = absurd (true≢false (sym e))
given h p (x ∷ xs) e = by (h x) refl e (λ k. given-later h p x xs (given h p xs k))
  where
    by : (o : Option ℕ) → h x ≡ o → mem p (cons_option o (filter_map h xs)) ≡ true → (mem p (filter_map h xs) ≡ true → Given h p (x ∷ xs)) → Given h p (x ∷ xs)
    by None eo k more = more k
    by (Some y) eo k more = here (eqb p y) refl k
      where
        here : (b : Bool) → eqb p y ≡ b → (b || mem p (filter_map h xs)) ≡ true → Given h p (x ∷ xs)
        here true same g = record { source = x; listed = rw (eq-eqb x x refl) refl; gives = eo ∙ ap Some (sym (eqb-true p y same)) }
        here false same g = more g

-- one item more
pub given_more : (h : ℕ → Option ℕ) (xs : List ℕ) (i d : ℕ) → i < length xs → filter_map h (take (i + 1) xs) ≡ filter_map h (take i xs) ++ cons_option (h (get_or xs i d)) []
given_more h xs i d short =
    ap (filter_map h) (take_more xs i d short) ∙ filter_map-append h (take i xs) (get_or xs i d ∷ [])
