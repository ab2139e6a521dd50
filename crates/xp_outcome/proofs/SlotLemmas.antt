-- Slots after one was set.
use Rattle.std.proofs.Common.{◌≡◌, ◌≢◌, ℕ, zero, suc, ◌+◌, ◌-◌, ◌<◌, ◌≤◌, List, [], ◌∷◌, ◌++◌, ◌⊎◌, length, take, refl, sym, ◌∙◌, ap, arith, inl, inr, ⊎_elim, append-nil, length-append}
use Rattle.std.proofs.Math.ListN.{replicate}
use Rattle.std.specs.List.{FoldsTo, AppendsResults}
use Rattle.std.proofs.lemmas.List.{take_all, length-replicate, get_or-set_same, get_or-set_other, get_or-take, get_or_past}
use Rattle.std.specs.Prelude.{Bool, true, false, Option, Some, None, slice_get, slice_set}
use Rattle.xp_outcome.specs.Slots.{in_slot, reaching, with_slot, slot_before, trimmed, IsTrimmed, slots_below}
use Rattle.xp_outcome.specs.inner.Trimming.{is_empty_slot, ends_empty}

-- calls that each return v return it so many times
same_again : {F X : Type 0} (step : F → X → F → Type 0) (v : X) → ((f : F) (x : X) (g : F) → step f x g → x ≡ v) →
    (f : F) (ys : List X) (last : F) → FoldsTo step f ys last → ys ≡ replicate (length ys) v
same_again step v each f [] last h = refl
same_again step v each f (y ∷ ys) last h =
    ap (λ x. x ∷ ys) (each f y h.0 h.1) ∙ ap (λ zs. v ∷ zs) (same_again step v each h.0 ys last h.2)

-- a list lengthened by calls that each return v
pub lengthened : {F X : Type 0} (step : F → X → F → Type 0) (v : X) → ((f : F) (x : X) (g : F) → step f x g → x ≡ v) →
    (f : F) (old new : List X) (n : ℕ) → length old ≤ n → length new ≡ n → AppendsResults step (take n old) new f →
    new ≡ old ++ replicate (n - length old) v
lengthened step v each f old new n few long h =
    let front : take n old ≡ old = take_all n old few in
    let are : new ≡ old ++ h.0 = h.2 ∙ ap (λ xs. xs ++ h.0) front in
    let count : length h.0 ≡ n - length old = omega (arith, ap length are, length-append old h.0) in
    are ∙ ap (λ xs. old ++ xs) (same_again step v each f h.0 h.1 h.3 ∙ ap (λ k. replicate k v) count)

-- past the first list an empty slot is found
padded : {V : Type 0} (slots : List (Option V)) (k slot : ℕ) → in_slot (slots ++ replicate k None) slot ≡ in_slot slots slot
padded [] zero slot = refl
padded [] (suc k) zero = refl
padded [] (suc k) (suc slot) = padded [] k slot
padded (x ∷ xs) k zero = refl
padded (x ∷ xs) k (suc slot) = padded xs k slot

long_enough : {V : Type 0} (slots : List (Option V)) (slot : ℕ) → slot < length (reaching slots slot)
long_enough slots slot = simp (length-append, length-replicate) (omega arith)

pub put_there : {V : Type 0} (slots : List (Option V)) (slot : ℕ) (v : V) → in_slot (with_slot slots slot v) slot ≡ Some v
put_there slots slot v = get_or-set_same (reaching slots slot) slot (Some v) None (long_enough slots slot)

pub others_stay : {V : Type 0} (slots : List (Option V)) (slot other : ℕ) (v : V) → other ≢ slot → in_slot (with_slot slots slot v) other ≡ in_slot slots other
others_stay slots slot other v apart = get_or-set_other (reaching slots slot) slot other (Some v) None apart ∙ padded slots (slot + 1 - length slots) other

-- trimming

trimmed_slot : {V : Type 0} (x : Option V) (slots : List (Option V)) (slot : ℕ) → in_slot (slot_before x slots) slot ≡ in_slot (x ∷ slots) slot
trimmed_slot (Some v) slots slot = refl
trimmed_slot None [] zero = refl
trimmed_slot None [] (suc slot) = refl
trimmed_slot None (y ∷ slots) slot = refl

later_slot : {V : Type 0} (x : Option V) (slots others : List (Option V)) (slot : ℕ) → in_slot slots slot ≡ in_slot others slot → in_slot (x ∷ slots) (suc slot) ≡ in_slot (x ∷ others) (suc slot)
later_slot x slots others slot is = is

-- trimming changes no slot
trimmed_same : {V : Type 0} (slots : List (Option V)) (slot : ℕ) → in_slot (trimmed slots) slot ≡ in_slot slots slot
trimmed_same [] slot = refl
trimmed_same (x ∷ slots) zero = trimmed_slot x (trimmed slots) zero
trimmed_same (x ∷ slots) (suc slot) = trimmed_slot x (trimmed slots) (suc slot) ∙ later_slot x (trimmed slots) slots slot (trimmed_same slots slot)

none_left : {V : Type 0} (k len : ℕ) → trimmed {V = V} (take len (replicate k None)) ≡ []
none_left k zero = refl
none_left zero (suc len) = refl
none_left (suc k) (suc len) = ap (slot_before None) (none_left k len)

-- slots padded with empty ones and cut
padded_cut : {V : Type 0} (slots : List (Option V)) (k len : ℕ) → trimmed (take len (slots ++ replicate k None)) ≡ trimmed (take len slots)
padded_cut slots k zero = refl
padded_cut [] k (suc len) = none_left k (suc len)
padded_cut (x ∷ slots) k (suc len) = ap (slot_before x) (padded_cut slots k len)

set_past : {A : Type 0} (xs : List A) (i len : ℕ) (v : A) → len ≤ i → take len (slice_set xs i v) ≡ take len xs
set_past xs i zero v past = refl
set_past [] i (suc len) v past = refl
set_past (x ∷ xs) zero (suc len) v past = absurd (omega (arith, past))
set_past (x ∷ xs) (suc i) (suc len) v past = ap (λ ys. x ∷ ys) (set_past xs i len v (omega (arith, past)))

-- a cut below a slot takes back what was put there
pub put_undone : {V : Type 0} (slots : List (Option V)) (slot len : ℕ) (v : V) → len ≤ slot → slots_below len (with_slot slots slot v) ≡ slots_below len slots
put_undone slots slot len v past =
    ap trimmed (set_past (reaching slots slot) slot len (Some v) past) ∙ padded_cut slots (slot + 1 - length slots) len

pub kept_whole : {V : Type 0} (slots : List (Option V)) (len : ℕ) → IsTrimmed slots → length slots ≤ len → slots_below len slots ≡ slots
kept_whole slots len trim few = ap trimmed (take_all len slots few) ∙ trim

-- trimmed slots stay as they are
before_trimmed : {V : Type 0} (x : Option V) (slots : List (Option V)) → IsTrimmed slots → IsTrimmed (slot_before x slots)
before_trimmed (Some v) slots trim = ap (λ ss. Some v ∷ ss) trim
before_trimmed None [] trim = refl
before_trimmed None (y ∷ slots) trim = ap (slot_before None) trim

pub trimmed_once : {V : Type 0} (slots : List (Option V)) → IsTrimmed (trimmed slots)
trimmed_once [] = refl
trimmed_once (x ∷ slots) = before_trimmed x (trimmed slots) (trimmed_once slots)

no_slots : {V : Type 0} (slots : List (Option V)) → length slots ≡ 0 → [] ≡ slots
no_slots [] none = refl
no_slots (x ∷ slots) none = absurd (omega (arith, none))

-- an empty slot at the end is dropped
empty_dropped : {V : Type 0} (slots : List (Option V)) (n : ℕ) → length slots ≡ n + 1 → is_empty_slot (slice_get slots n) ≡ true → trimmed (take n slots) ≡ trimmed slots
empty_dropped [] n long last = absurd (omega (arith, long))
empty_dropped (None ∷ slots) zero long last = ap (λ ss. slot_before None (trimmed ss)) (no_slots slots (omega (arith, long)))
empty_dropped (Some v ∷ slots) zero long last = absurd (cc)
empty_dropped (x ∷ slots) (suc n) long last = ap (slot_before x) (empty_dropped slots n (omega (arith, long)) last)

before_last : {V : Type 0} (x : Option V) (slots : List (Option V)) (n : ℕ) → length slots ≡ n + 1 → slot_before x slots ≡ x ∷ slots
before_last (Some v) slots n long = refl
before_last None [] n long = absurd (omega (arith, long))
before_last None (y ∷ slots) n long = refl

-- slots that end with a value are trimmed
value_last : {V : Type 0} (slots : List (Option V)) (n : ℕ) → length slots ≡ n + 1 → is_empty_slot (slice_get slots n) ≡ false → IsTrimmed slots
value_last [] n long last = absurd (omega (arith, long))
value_last (None ∷ slots) zero long last = absurd (cc)
value_last (Some v ∷ slots) zero long last = ap (λ ss. Some v ∷ trimmed ss) (sym (no_slots slots (omega (arith, long)))) ∙ ap (λ ss. Some v ∷ ss) (no_slots slots (omega (arith, long)))
value_last (x ∷ slots) (suc n) long last =
    ap (slot_before x) (value_last slots n (omega (arith, long)) last) ∙ before_last x slots n (omega (arith, long))

one_less : (n : ℕ) → 0 < n → n ≡ (n - 1) + 1
one_less n some = omega (arith, some)

pub one_dropped : {V : Type 0} (slots rest : List (Option V)) (n : ℕ) → length slots ≡ n → true ≡ ends_empty slots → rest ≡ take (n - 1) slots → trimmed rest ≡ trimmed slots
one_dropped [] rest n many empty is = absurd (cc)
one_dropped (x ∷ slots) rest n many empty is =
    ap trimmed is ∙ ap (λ m. trimmed (take (m - 1) (x ∷ slots))) (sym many)
    ∙ empty_dropped (x ∷ slots) (length (x ∷ slots) - 1) (one_less (length (x ∷ slots)) (omega arith)) (sym empty)

pub none_dropped : {V : Type 0} (slots : List (Option V)) → false ≡ ends_empty slots → IsTrimmed slots
none_dropped [] full = refl
none_dropped (x ∷ slots) full = value_last (x ∷ slots) (length (x ∷ slots) - 1) (one_less (length (x ∷ slots)) (omega arith)) (sym full)

-- the slots after the first one are trimmed where all are
abbrev rest_of : {V : Type 0} → List (Option V) → List (Option V)
rest_of [] = []
rest_of (x ∷ slots) = slots

later_trimmed : {V : Type 0} (x : Option V) (slots : List (Option V)) → IsTrimmed (x ∷ slots) → IsTrimmed slots
later_trimmed (Some v) slots h = ap rest_of h
later_trimmed None slots h =
    elim (trimmed slots) as (λ ts. trimmed slots ≡ ts → slot_before None ts ≡ None ∷ slots → ts ≡ slots) [
      | [] ↦ λ _ empty. absurd (cc)
      | y ∷ ys ↦ λ _ same. ap rest_of same
    ] refl h

set_first : {V : Type 0} (x : Option V) (slots : List (Option V)) (slot : ℕ) (v : V) → slot < length slots → slot_before x (slice_set slots slot (Some v)) ≡ x ∷ slice_set slots slot (Some v)
set_first (Some w) slots slot v below = refl
set_first None [] slot v below = absurd (omega arith)
set_first None (y ∷ slots) zero v below = refl
set_first None (y ∷ slots) (suc slot) v below = refl

none_there : {V : Type 0} (slots : List (Option V)) → length slots ≡ 0 → IsTrimmed slots
none_there [] none = refl
none_there (x ∷ slots) none = absurd (omega (arith, none))

-- a value put into a slot that is there, where the slots are trimmed or this is the last one
set_trimmed : {V : Type 0} (slots : List (Option V)) (slot : ℕ) (v : V) → slot < length slots → IsTrimmed slots ⊎ (slot + 1 ≡ length slots) → IsTrimmed (slice_set slots slot (Some v))
set_trimmed [] slot v below last = absurd (omega arith)
set_trimmed (x ∷ slots) zero v below (inl trim) = ap (λ ss. Some v ∷ ss) (later_trimmed x slots trim)
set_trimmed (x ∷ slots) zero v below (inr last) = ap (λ ss. Some v ∷ ss) (none_there slots (omega (arith, last)))
set_trimmed (x ∷ slots) (suc slot) v below (inl trim) =
    ap (slot_before x) (set_trimmed slots slot v (omega (arith, below)) (inl (later_trimmed x slots trim))) ∙ set_first x slots slot v (omega (arith, below))
set_trimmed (x ∷ slots) (suc slot) v below (inr last) =
    ap (slot_before x) (set_trimmed slots slot v (omega (arith, below)) (inr (omega (arith, last)))) ∙ set_first x slots slot v (omega (arith, below))

le_or_lt : (a b : ℕ) → (a ≤ b) ⊎ (b < a)
le_or_lt a b = grind arith

-- either there were slots enough, or the last one is reached
reached_end : {V : Type 0} (slots : List (Option V)) (slot : ℕ) → IsTrimmed slots → IsTrimmed (reaching slots slot) ⊎ (slot + 1 ≡ length (reaching slots slot))
reached_end slots slot trim =
    ⊎_elim
    (λ (many : slot + 1 ≤ length slots). inl (
    let none : slot + 1 - length slots ≡ 0 = omega (arith, many) in
    let same : reaching slots slot ≡ slots = ap (λ k. slots ++ replicate k None) none ∙ append-nil slots in
    ap trimmed same ∙ trim ∙ sym same))
    (λ (few : length slots < slot + 1). inr (simp (length-append, length-replicate) (omega (arith, few))))
    (le_or_lt (slot + 1) (length slots))

-- slots stay trimmed where a value is put
pub put_trimmed : {V : Type 0} (slots : List (Option V)) (slot : ℕ) (v : V) → IsTrimmed slots → IsTrimmed (with_slot slots slot v)
put_trimmed slots slot v trim =
    set_trimmed (reaching slots slot) slot v (long_enough slots slot) (reached_end slots slot trim)

pub kept_below : {V : Type 0} (slots : List (Option V)) (slot len : ℕ) → slot < len → in_slot (slots_below len slots) slot ≡ in_slot slots slot
kept_below slots slot len below = trimmed_same (take len slots) slot ∙ get_or-take len slots slot None below

no_longer : {A : Type 0} (len : ℕ) (xs : List A) → length (take len xs) ≤ len
no_longer zero xs = omega arith
no_longer (suc len) [] = omega arith
no_longer (suc len) (x ∷ xs) = omega (arith, no_longer len xs)

pub cut_above : {V : Type 0} (slots : List (Option V)) (slot len : ℕ) → len ≤ slot → in_slot (slots_below len slots) slot ≡ None
cut_above slots slot len above = trimmed_same (take len slots) slot ∙ get_or_past (take len slots) slot None (omega (arith, no_longer len slots))
