-- Lists of numbers: membership and counts, and the last of a list.
use Rattle.std.proofs.Common.{◌≡◌, ◌≢◌, ℕ, ◌+◌, ◌<◌, ◌≤◌, zero, suc, Bool, true, false, cond, ◌||◌, eqb, List, [], ◌∷◌, ◌++◌, length, get_or, sum_by, ◌⊎◌, refl, sym, ap, ◌∙◌, inl, inr, ⊎_elim, subst, true≢false, arith, eqb-true, eq-eqb, ne_eqb}
use Rattle.std.specs.List.{flat_map}
use Rattle.std.proofs.Common.{ap₂}
use Rattle.std.proofs.lemmas.List.Sums.{sum_by-cons}
use Rattle.doc_table.specs.Lists.{mem, occurs, last_or}

-- the number stands in the list
abbrev pub In : ℕ → List ℕ → Type 0
In n xs = 1 ≤ occurs n xs

pub occurs-append : (n : ℕ) (xs ys : List ℕ) → occurs n (xs ++ ys) ≡ occurs n xs + occurs n ys
occurs-append n [] ys = omega arith
occurs-append n (x ∷ xs) ys = omega (arith, occurs-append n xs ys)

pub occurs-head : (n : ℕ) (xs : List ℕ) → In n (n ∷ xs)
occurs-head n xs = rw (eq-eqb n n refl) (omega arith)

occurs-cases : (b c : Bool) (k : ℕ) → (b || c) ≡ true → (c ≡ true → 1 ≤ k) → 1 ≤ cond b 1 0 + k
occurs-cases true c k h more = omega arith
occurs-cases false c k h more = omega (arith, more h)

pub mem-In : (n : ℕ) (xs : List ℕ) → mem n xs ≡ true → In n xs
mem-In n [] h = absurd (true≢false (sym h))
mem-In n (x ∷ xs) h = occurs-cases (eqb n x) (mem n xs) (occurs n xs) h (mem-In n xs)

mem-cases : (b c : Bool) (k : ℕ) → 1 ≤ cond b 1 0 + k → (1 ≤ k → c ≡ true) → (b || c) ≡ true
mem-cases true c k h more = refl
mem-cases false c k h more = more (omega arith)

pub In-mem : (n : ℕ) (xs : List ℕ) → In n xs → mem n xs ≡ true
In-mem n [] h = absurd (omega arith)
In-mem n (x ∷ xs) h = mem-cases (eqb n x) (mem n xs) (occurs n xs) h (In-mem n xs)

none-cases : (b c : Bool) (k : ℕ) → cond b 1 0 + k ≡ 0 → (k ≡ 0 → c ≡ false) → (b || c) ≡ false
none-cases true c k h more = absurd (omega arith)
none-cases false c k h more = more (omega arith)

pub none-mem : (n : ℕ) (xs : List ℕ) → occurs n xs ≡ 0 → mem n xs ≡ false
none-mem n [] h = refl
none-mem n (x ∷ xs) h = none-cases (eqb n x) (mem n xs) (occurs n xs) h (none-mem n xs)

head-cases : (n x k : ℕ) (b : Bool) → eqb n x ≡ b → 1 ≤ cond b 1 0 + k → (n ≡ x) ⊎ (1 ≤ k)
head-cases n x k true e h = inl (eqb-true n x e)
head-cases n x k false e h = inr (omega arith)

-- a number in a list is its head or stands in its tail
pub In-cons : (n x : ℕ) (xs : List ℕ) → In n (x ∷ xs) → (n ≡ x) ⊎ In n xs
In-cons n x xs h = head-cases n x (occurs n xs) (eqb n x) refl h

-- a number that stands in a list just once stands on one side alone
pub other-cases : (n x k : ℕ) → n ≢ x → cond (eqb n x) 1 0 + k ≡ k
other-cases n x k ne = rw (ne_eqb n x ne) (omega arith)

pub occurs-other : (n x : ℕ) (xs : List ℕ) → n ≢ x → occurs n (x ∷ xs) ≡ occurs n xs
occurs-other n x xs ne = other-cases n x (occurs n xs) ne

pub occurs-same : (n : ℕ) (xs : List ℕ) → occurs n (n ∷ xs) ≡ suc (occurs n xs)
occurs-same n xs = rw (eq-eqb n n refl) (omega arith)

-- the last of a list that has one
pub last-In : (d : ℕ) (xs : List ℕ) → In (last_or d xs) (d ∷ xs)
last-In d [] = occurs-head d []
last-In d (x ∷ xs) = omega (arith, last-In x xs)

pub last-append : (d x : ℕ) (xs ys : List ℕ) → last_or d (xs ++ x ∷ ys) ≡ last_or x ys
last-append d x [] ys = refl
last-append d x (y ∷ xs) ys = last-append y x xs ys

-- where the last of a list is x, and x does not stand after x, nothing stands there
pub last-end : (x : ℕ) (ys : List ℕ) → last_or x ys ≡ x → occurs x ys ≡ 0 → ys ≡ []
last-end x [] e none = refl
last-end x (y ∷ ys) e none = absurd (let h : In (last_or y ys) (y ∷ ys) = last-In y ys in let k : In x (y ∷ ys) = subst (λ m. In m (y ∷ ys)) e h in omega arith)

pub append-empty_left : {A : Type 0} (xs ys : List A) → xs ++ ys ≡ [] → xs ≡ []
append-empty_left [] ys e = refl
append-empty_left (x ∷ xs) ys e = absurd (cc)

pub append-empty_right : {A : Type 0} (xs ys : List A) → xs ++ ys ≡ [] → ys ≡ []
append-empty_right [] ys e = e
append-empty_right (x ∷ xs) ys e = absurd (cc)

-- a function that gives nothing gives nothing along a list
pub flat_map-nothing : {A : Type 0} (xs : List ℕ) → flat_map {A = A} (λ (_ : ℕ). []) xs ≡ []
flat_map-nothing [] = refl
flat_map-nothing (x ∷ xs) = flat_map-nothing xs

-- two functions that agree along a list give the same
pub flat_map-same : {A : Type 0} (f g : ℕ → List A) (xs : List ℕ) → ((n : ℕ) → In n xs → f n ≡ g n) → flat_map f xs ≡ flat_map g xs
flat_map-same f g [] same = refl
flat_map-same f g (x ∷ xs) same =
    let here : f x ≡ g x = same x (occurs-head x xs) in
    let rest : flat_map f xs ≡ flat_map g xs = flat_map-same f g xs (λ n h. same n (omega (arith, h))) in
    cc

append-cases : (a b : ℕ) → 1 ≤ a + b → (1 ≤ a) ⊎ (1 ≤ b)
append-cases zero b h = inr (omega arith)
append-cases (suc a) b h = inl (omega arith)

-- a number in two lists together stands in one of them
pub In-append : (n : ℕ) (xs ys : List ℕ) → In n (xs ++ ys) → In n xs ⊎ In n ys
In-append n xs ys h = append-cases (occurs n xs) (occurs n ys) (omega (arith, h, occurs-append n xs ys))

-- where the last of two lists together stands not in the second, that is empty
pub last-front : (d : ℕ) (xs ys : List ℕ) → occurs (last_or d (xs ++ ys)) ys ≡ 0 → ys ≡ []
last-front d xs [] h = refl
last-front d xs (y ∷ ys) h =
    let e : last_or d (xs ++ y ∷ ys) ≡ last_or y ys = last-append d y xs ys in
    let k : In (last_or y ys) (y ∷ ys) = last-In y ys in
    let g : occurs (last_or y ys) (y ∷ ys) ≡ 0 = subst (λ m. occurs m (y ∷ ys) ≡ 0) e h in
    absurd (omega arith)

-- the entry put at the end of a list
pub get-last : {A : Type 0} (xs : List A) (y d : A) (k : ℕ) → k ≡ length xs → get_or (xs ++ y ∷ []) k d ≡ y
get-last [] y d k e = rw e refl
get-last (x ∷ xs) y d zero e = absurd (omega arith)
get-last (x ∷ xs) y d (suc k) e = get-last xs y d k (omega arith)

-- sums of two functions that agree along a list
pub sum_by-same : (f g : ℕ → ℕ) (xs : List ℕ) → ((n : ℕ) → In n xs → f n ≡ g n) → sum_by f xs ≡ sum_by g xs
sum_by-same f g [] same = refl
sum_by-same f g (x ∷ xs) same =
    let here : f x ≡ g x = same x (occurs-head x xs) in
    let rest : sum_by f xs ≡ sum_by g xs = sum_by-same f g xs (λ n h. same n (omega (arith, h))) in
    sum_by-cons f x xs ∙ ap₂ (λ a b. a + b) here rest ∙ sym (sum_by-cons g x xs)

pub singles : (xs : List ℕ) → flat_map (λ m. m ∷ []) xs ≡ xs
singles [] = refl
singles (x ∷ xs) = ap (λ l. x ∷ l) (singles xs)

-- two numbers are equal or not
pub eq_or : (m n : ℕ) → (m ≡ n) ⊎ (m ≢ n)
eq_or m n = by (eqb m n) refl
  where
    by : (b : Bool) → eqb m n ≡ b → (m ≡ n) ⊎ (m ≢ n)
    by true e = inl (eqb-true m n e)
    by false e = inr (λ same. true≢false (sym (eq-eqb m n same) ∙ e))

pub In-length : (n : ℕ) (xs : List ℕ) → In n xs → 1 ≤ length xs
In-length n [] h = absurd (omega arith)
In-length n (x ∷ xs) h = omega arith

-- membership by the test
pub mem-append : (n : ℕ) (xs ys : List ℕ) → mem n (xs ++ ys) ≡ true → (mem n xs ≡ true) ⊎ (mem n ys ≡ true)
mem-append n xs ys h =
    ⊎_elim (λ (k : In n xs). inl (In-mem n xs k)) (λ (k : In n ys). inr (In-mem n ys k)) (In-append n xs ys (mem-In n (xs ++ ys) h))

pub mem-one : (n m : ℕ) → mem n (m ∷ []) ≡ true → n ≡ m
mem-one n m h = ⊎_elim (λ (e : n ≡ m). e) (λ (k : In n []). absurd (omega arith)) (In-cons n m [] (mem-In n (m ∷ []) h))

pub mem-head : (n : ℕ) (xs : List ℕ) → mem n (n ∷ xs) ≡ true
mem-head n xs = In-mem n (n ∷ xs) (occurs-head n xs)

pub mem-tail : (n m : ℕ) (xs : List ℕ) → mem n xs ≡ true → mem n (m ∷ xs) ≡ true
mem-tail n m xs h = In-mem n (m ∷ xs) (omega (arith, mem-In n xs h))

-- what stands at a place stands in the list
pub mem-get : (xs : List ℕ) (i d : ℕ) → i < length xs → mem (get_or xs i d) xs ≡ true
mem-get [] i d h = absurd (omega arith)
mem-get (x ∷ xs) zero d h = mem-head x xs
mem-get (x ∷ xs) (suc i) d h = mem-tail (get_or xs i d) x xs (mem-get xs i d (omega arith))
