-- Tests over lists of numbers, and the texts beside a place.
use Rattle.std.proofs.Common.{◌≡◌, ◌≢◌, ℕ, ◌+◌, ◌-◌, ◌<◌, Bool, true, false, cond, not, ◌&&◌, ◌||◌, List, [], ◌∷◌, length, Option, None, Some, refl, sym, ap, ◌∙◌, subst, ⊎_elim, true≢false, arith, eqb, eqb-true, is_some, find, unwrap_or}
use Rattle.std.specs.List.{list_any}
use Rattle.std.specs.Option.{option_or}
use Rattle.std.specs.Prelude.{slice_get, nat_lt, if◌then◌else◌}
use Rattle.doc_table.specs.declared.kind.Kind.{Kind}
use Rattle.doc_table.specs.declared.kind.Kind.TheVariants.{Root, Element, Attribute, Text, Comment, Pi}
use Rattle.doc_table.specs.Kinds.{is_element, is_text}
use Rattle.doc_table.specs.Growth.{ends_in_text}
use Rattle.doc_table.specs.Lists.{last_or, mem}
use Rattle.doc_table.specs.Walks.{above, ancestors}
use Rattle.doc_tree.specs.Refusals.{is_too_deep_at}
use Rattle.doc_table.specs.Table.{Facts, Table, content_at, entry_at, is_live, kind_at, kind_of}
use Rattle.doc_table.proofs.ListLemmas.{eq_or, mem-head, mem-tail}

some-none : {A : Type 0} (x : A) → Some x ≡ None → ⊥
some-none x h = true≢false (ap is_some h)

-- a number of the list passes the test
pub any-of : (f : ℕ → Bool) (n : ℕ) (xs : List ℕ) → mem n xs ≡ true → f n ≡ true → list_any f xs ≡ true
any-of f n [] h holds = absurd (true≢false (sym h))
any-of f n (x ∷ xs) h holds =
    ⊎_elim (λ (e : n ≡ x). rw (sym (ap f e) ∙ holds) refl)
    (λ (ne : n ≢ x). by (f x) (any-of f n xs (later (eqb n x) refl h ne) holds))
    (eq_or n x)
  where
    by : (b : Bool) → list_any f xs ≡ true → (b || list_any f xs) ≡ true
    by true h = refl
    by false h = h

    later : (b : Bool) → eqb n x ≡ b → (b || mem n xs) ≡ true → n ≢ x → mem n xs ≡ true
    later true e h ne = absurd (ne (eqb-true n x e))
    later false e h ne = h

-- no number of the list passes the test
pub none-of : (f : ℕ → Bool) (xs : List ℕ) → ((m : ℕ) → mem m xs ≡ true → f m ≡ false) → list_any f xs ≡ false
none-of f [] fails = refl
none-of f (x ∷ xs) fails = rw (fails x (mem-head x xs)) (none-of f xs (λ m h. fails m (mem-tail m x xs h)))

-- the last number of a list
pub last-get : (n : ℕ) (ns : List ℕ) → slice_get (n ∷ ns) (length ns) ≡ Some (last_or n ns)
last-get n [] = refl
last-get n (m ∷ ms) = last-get m ms

pub last-text : (T : Table) (nodes : List ℕ) (n : ℕ) → slice_get nodes (length nodes - 1) ≡ Some n → is_text (kind_of T n) ≡ ends_in_text T nodes
last-text T [] n h = absurd (some-none n (sym h))
last-text T (m ∷ ms) n h =
    ap (λ o. is_text (kind_of T (unwrap_or o 0))) (sym h ∙ (ap (slice_get (m ∷ ms)) (omega arith) ∙ last-get m ms))

-- a number below the next one is below, or is it
pub below-next : (P : ℕ → Type 0) (n : ℕ) → ((m : ℕ) → m < n → P m) → P n → (m : ℕ) → m < n + 1 → P m
below-next P n before last m h = ⊎_elim (λ (e : m ≡ n). subst P (sym e) last) (λ (ne : m ≢ n). before m (omega (arith, h, ne))) (eq_or m n)

-- an element lives
pub element-live : (T : Table) (n : ℕ) → is_element (kind_of T n) ≡ true → is_live T n ≡ true
element-live T n h = by (entry_at T n) h
  where
    by : (e : Option Facts) → is_element (kind_at (content_at e)) ≡ true → is_some e ≡ true
    by None h = h
    by (Some node) h = refl

-- the test of a number, where the ancestors above the piece were counted before
pub deep-at : (T P : Table) (p n depth : ℕ) (b : Bool) → depth ≡ length (above T p) → b ≡ (is_element (kind_of P n) && nat_lt 257 (depth + length (ancestors P n)))
    → is_too_deep_at T p P n ≡ b
deep-at T P p n depth b counted tested = sym (tested ∙ ap (λ d. is_element (kind_of P n) && nat_lt 257 (d + length (ancestors P n))) counted)

-- where there is no reason among some, none of their conditions holds
pub none-of-two : {A : Type 0} (a b : Bool) (r s : A) → (if a then Some r else if b then Some s else None) ≡ None → (a ≡ false) × (b ≡ false)
none-of-two true b r s h = absurd (some-none r h)
none-of-two false true r s h = absurd (some-none s h)
none-of-two false false r s h = (refl, refl)

pub none-of-three : {A : Type 0} (a b c : Bool) (r s t : A) → (if a then Some r else if b then Some s else if c then Some t else None) ≡ None
    → (a ≡ false) × (b ≡ false) × (c ≡ false)
none-of-three true b c r s t h = absurd (some-none r h)
none-of-three false true c r s t h = absurd (some-none s h)
none-of-three false false true r s t h = absurd (some-none t h)
none-of-three false false false r s t h = (refl, refl, refl)

pub none-of-four : {A : Type 0} (a b c d : Bool) (r s t u : A) → (if a then Some r else if b then Some s else if c then Some t else if d then Some u else None) ≡ None
    → (a ≡ false) × (b ≡ false) × (c ≡ false) × (d ≡ false)
none-of-four true b c d r s t u h = absurd (some-none r h)
none-of-four false b c d r s t u h = (refl, (none-of-three b c d s t u h).0, (none-of-three b c d s t u h).1, (none-of-three b c d s t u h).2)

pub none-of-five : {A : Type 0} (a b c d e : Bool) (r s t u v : A) →
    (if a then Some r else if b then Some s else if c then Some t else if d then Some u else if e then Some v else None) ≡ None
    → (a ≡ false) × (b ≡ false) × (c ≡ false) × (d ≡ false) × (e ≡ false)
none-of-five true b c d e r s t u v h = absurd (some-none r h)
none-of-five false b c d e r s t u v h =
    (refl, (none-of-four b c d e s t u v h).0, (none-of-four b c d e s t u v h).1, (none-of-four b c d e s t u v h).2, (none-of-four b c d e s t u v h).3)

-- neither of two reasons
pub or-none : {A : Type 0} (a b : Option A) → option_or a b ≡ None → (a ≡ None) × (b ≡ None)
or-none None b h = (refl, h)
or-none (Some x) b h = absurd (true≢false (ap is_some h))

pub not-true : (b : Bool) → not b ≡ false → b ≡ true
not-true true h = refl
not-true false h = absurd (true≢false h)

pub or-false : (b c : Bool) → (b || c) ≡ false → (b ≡ false) × (c ≡ false)
or-false true c h = absurd (true≢false h)
or-false false c h = (refl, h)

pub and-false : (b c : Bool) → (b && c) ≡ false → b ≡ true → c ≡ false
and-false true c h e = h
and-false false c h e = absurd (true≢false (sym e))

-- no number of a list passes a test that none passes
pub some-of : (f : ℕ → Bool) (xs : List ℕ) → list_any f xs ≡ false → (m : ℕ) → mem m xs ≡ true → f m ≡ false
some-of f [] h m member = absurd (true≢false (sym member))
some-of f (x ∷ xs) h m member = by (eqb m x) refl member (or-false (f x) (list_any f xs) h).0 (some-of f xs (or-false (f x) (list_any f xs) h).1 m)
  where
    by : (b : Bool) → eqb m x ≡ b → (b || mem m xs) ≡ true → f x ≡ false → (mem m xs ≡ true → f m ≡ false) → f m ≡ false
    by true e member here there = ap f (eqb-true m x e) ∙ here
    by false e member here there = there member

-- a kind that is an element's
pub is-element : (k : Option Kind) → is_element k ≡ true → k ≡ Some Element
is-element None h = absurd (true≢false (sym h))
is-element (Some Root) h = absurd (true≢false (sym h))
is-element (Some Element) h = refl
is-element (Some Attribute) h = absurd (true≢false (sym h))
is-element (Some Text) h = absurd (true≢false (sym h))
is-element (Some Comment) h = absurd (true≢false (sym h))
is-element (Some Pi) h = absurd (true≢false (sym h))

-- what is found stands in the list and passes the test, and where nothing is found nothing passes it
pub find-in : (f : ℕ → Bool) (xs : List ℕ) (n : ℕ) → find f xs ≡ Some n → (mem n xs ≡ true) × (f n ≡ true)
find-in f [] n h = absurd (true≢false (sym (ap is_some h)))
find-in f (x ∷ xs) n h = by (f x) refl h (find-in f xs n)
  where
    by : (b : Bool) → f x ≡ b → cond b (Some x) (find f xs) ≡ Some n → (find f xs ≡ Some n → (mem n xs ≡ true) × (f n ≡ true)) →
        (mem n (x ∷ xs) ≡ true) × (f n ≡ true)
    by true e found later = subst (λ m. (mem m (x ∷ xs) ≡ true) × (f m ≡ true)) (ap (λ o. unwrap_or o 0) found) (mem-head x xs, e)
    by false e found later = (mem-tail n x xs (later found).0, (later found).1)

pub find-none : (f : ℕ → Bool) (xs : List ℕ) → find f xs ≡ None → (n : ℕ) → mem n xs ≡ true → f n ≡ false
find-none f [] h n member = absurd (true≢false (sym member))
find-none f (x ∷ xs) h n member = by (f x) refl (eqb n x) refl h member (λ e. find-none f xs e n)
  where
    by : (b : Bool) → f x ≡ b → (c : Bool) → eqb n x ≡ c → cond b (Some x) (find f xs) ≡ None → (c || mem n xs) ≡ true →
        (find f xs ≡ None → mem n xs ≡ true → f n ≡ false) → f n ≡ false
    by true e c d none member later = absurd (some-none x none)
    by false e true d none member later = ap f (eqb-true n x d) ∙ e
    by false e false d none member later = later none member
