-- Units that share sets of cells: what becomes of the cells of units.
use Rattle.std.proofs.Common.{◌≡◌, ◌≢◌, ◌∙◌, ℕ, zero, suc, ◌<◌, ◌==◌, Bool, true, false, ◌||◌, ◌&&◌, List, [], ◌∷◌, ◌⊎◌, set, length, nat_lt, Option, Some, None, Result, Ok, Err, IfNone, IfOk, OnErr, OnOk, refl, sym, ap, inl, inr, subst, arith}
use Rattle.std.proofs.Math.ListN.{get_or-map}
use Rattle.std.proofs.lemmas.Bool.{cases_eq, eq-eqb, lt-ltb, eqb-true, false_from_ne_true, false≢true}
use Rattle.std.specs.Bool.{OnFalse, OnTrue}
use Rattle.std.specs.List.{Contains, list_any}
use Rattle.std.specs.List.Sorted.{IsStrictlyIncreasing}
use Rattle.std.specs.Prelude.{if◌then◌else◌}
use Rattle.doc_tree.specs.cell.Cell.{Cell}
use Rattle.cell_index.specs.Cells.{is_among}
use Rattle.cell_index.specs.Index.{Adds, AreThoseWith, Stays, cells_of, has}
use Rattle.cell_index.specs.inner.Gathering.{Finds}
use Rattle.cell_index.specs.declared.chains.Chains.{Chains}
use Rattle.cell_index.specs.inner.CellNumbers.{cell_number}
use Rattle.cell_index.specs.inner.Chains.{InChain}
use Rattle.cell_index.specs.inner.Sharing.{AreReaders, Joins, KeepsCells, cells_of_set, held_of, is_member, set_has, set_of}
use Rattle.cell_index.proofs.GatheringLemmas.{any_here, here_any, nothing_contained}

apart : (a b : ℕ) → a ≢ b → (a == b) ≡ false
apart a b differ = false_from_ne_true (a == b) (λ same. differ (eqb-true a b same))

-- What is put at a number, and elsewhere

if_here : {A : Type 0} (a b : ℕ) (x y : A) → a ≡ b → (if a == b then x else y) ≡ x
if_here {A} a b x y same = ap (λ (t : Bool). if t then x else y) (eq-eqb a b same)

if_elsewhere : {A : Type 0} (a b : ℕ) (x y : A) → a ≢ b → (if a == b then x else y) ≡ y
if_elsewhere {A} a b x y differ = ap (λ (t : Bool). if t then x else y) (apart a b differ)

-- What is seen of units

cells_view : (sets : List (List Cell)) (of_unit : List ℕ) (u : ℕ) → cells_of (held_of sets of_unit) u ≡ cells_of_set sets (set_of of_unit u)
cells_view sets of_unit u = get_or-map (cells_of_set sets) of_unit u 0

pub has_view : (sets : List (List Cell)) (of_unit : List ℕ) (u : ℕ) (c : Cell) → has (held_of sets of_unit) u c ≡ set_has sets (set_of of_unit u) c
has_view sets of_unit u c = ap (λ (own : List Cell). is_among own c) (cells_view sets of_unit u)

pub stays_alike : (old new : List (List Cell)) (was is : List ℕ) → ((u : ℕ) → cells_of_set new (set_of is u) ≡ cells_of_set old (set_of was u)) → Stays (held_of old was) (held_of new is)
stays_alike old new was is same u c = has_view new is u c ∙ ap (λ (own : List Cell). is_among own c) (same u) ∙ sym (has_view old was u c)

-- Whether a unit has a set

member_here : (of_unit : List ℕ) (set u : ℕ) → 0 < set → set_of of_unit u ≡ set → is_member of_unit set u ≡ true
member_here of_unit set u below same = ap (λ (b : Bool). b && (set_of of_unit u == set)) (lt-ltb 0 set below) ∙ eq-eqb (set_of of_unit u) set same

second_so : (a b : Bool) → (a && b) ≡ true → b ≡ true
second_so true b is = is
second_so false b is = absurd (false≢true is)

member_is : (of_unit : List ℕ) (set u : ℕ) → is_member of_unit set u ≡ true → set_of of_unit u ≡ set
member_is of_unit set u it = eqb-true (set_of of_unit u) set (second_so (nat_lt 0 set) (set_of of_unit u == set) it)

-- A unit gets another set

module _ (old new : List (List Cell)) (was is : List ℕ) (unit set : ℕ) (keeps : KeepsCells was old new) (joins : Joins unit set was is) where
  elsewhere : (u : ℕ) → u ≢ unit → cells_of_set new (set_of is u) ≡ cells_of_set old (set_of was u)
  elsewhere u differ = ap (cells_of_set new) (joins u ∙ if_elsewhere u unit set (set_of was u) differ) ∙ keeps u

  here : (u : ℕ) → u ≡ unit → cells_of_set new (set_of is u) ≡ cells_of_set new set
  here u same = ap (cells_of_set new) (joins u ∙ if_here u unit set (set_of was u) same)

  -- that of all its cells and others
  module _ (cells all : List Cell) (own : cells_of_set new set ≡ all)
      (both : (c : Cell) → is_among all c ≡ (is_among (cells_of_set old (set_of was unit)) c || is_among cells c)) where
    adds_here : (u : ℕ) (c : Cell) → u ≡ unit → has (held_of new is) u c ≡ (has (held_of old was) u c || ((u == unit) && is_among cells c))
    adds_here u c same =
        has_view new is u c
        ∙ ap (λ (some : List Cell). is_among some c) (here u same ∙ own)
        ∙ both c
        ∙ ap (λ (b : Bool). b || is_among cells c) (ap (λ (v : ℕ). set_has old (set_of was v) c) (sym same) ∙ sym (has_view old was u c))
        ∙ ap (λ (b : Bool). has (held_of old was) u c || (b && is_among cells c)) (sym (eq-eqb u unit same))

    adds_elsewhere : (u : ℕ) (c : Cell) → u ≢ unit → has (held_of new is) u c ≡ (has (held_of old was) u c || ((u == unit) && is_among cells c))
    adds_elsewhere u c differ =
        has_view new is u c
        ∙ ap (λ (some : List Cell). is_among some c) (elsewhere u differ)
        ∙ sym (has_view old was u c)
        ∙ or_nothing (has (held_of old was) u c) ((u == unit) && is_among cells c) (ap (λ (b : Bool). b && is_among cells c) (apart u unit differ))
      where
        or_nothing : (a b : Bool) → b ≡ false → a ≡ (a || b)
        or_nothing true b none = refl
        or_nothing false b none = sym none

    pub adds_shared : Adds unit cells (held_of old was) (held_of new is)
    adds_shared u c = elim (cases_eq u unit) [
      | inl same ↦ adds_here u c same
      | inr differ ↦ adds_elsewhere u c differ
    ]

-- The units with one of some cells

module _ (sets : List (List Cell)) (of_unit : List ℕ) (cells : List Cell) where
  any_nothing : (some : List Cell) → list_any (set_has sets 0) some ≡ false
  any_nothing [] = refl
  any_nothing (c ∷ some) = any_nothing some

  any_view : (u : ℕ) (some : List Cell) → list_any (has (held_of sets of_unit) u) some ≡ list_any (set_has sets (set_of of_unit u)) some
  any_view u [] = refl
  any_view u (c ∷ some) = ap (λ (b : Bool). b || list_any (has (held_of sets of_unit) u) some) (has_view sets of_unit u c) ∙ ap (λ (b : Bool). set_has sets (set_of of_unit u) c || b) (any_view u some)

  some_set : (s : ℕ) → list_any (set_has sets s) cells ≡ true → 0 < s
  some_set zero it = absurd (false≢true (sym (any_nothing cells) ∙ it))
  some_set (suc place) it = omega arith

  module _ (first numbers found units : List ℕ)
      (sets_found : Finds (λ (s : ℕ). list_any (set_has sets s) cells) [] first) (number_each : (n : ℕ) → Contains numbers n → Contains first n) (number_all : (n : ℕ) → Contains first n → Contains numbers n)
      (units_found : Finds (λ (u : ℕ). list_any (λ (s : ℕ). is_member of_unit s u) numbers) [] found) (rising : IsStrictlyIncreasing units)
      (unit_each : (n : ℕ) → Contains units n → Contains found n) (unit_all : (n : ℕ) → Contains found n → Contains units n) where
    is_set : (s : ℕ) → Contains [] s ⊎ (list_any (set_has sets s) cells ≡ true) → list_any (set_has sets s) cells ≡ true
    is_set s (inl was) = absurd (nothing_contained s was)
    is_set s (inr it) = it

    of_member : (u : ℕ) → (s : ℕ) × Contains numbers s × (is_member of_unit s u ≡ true) → list_any (has (held_of sets of_unit) u) cells ≡ true
    of_member u (s, there, member) =
        any_view u cells
        ∙ ap (λ (t : ℕ). list_any (set_has sets t) cells) (member_is of_unit s u member)
        ∙ is_set s (sets_found.each s (number_each s there))

    is_unit : (u : ℕ) → Contains [] u ⊎ (list_any (λ (s : ℕ). is_member of_unit s u) numbers ≡ true) → list_any (has (held_of sets of_unit) u) cells ≡ true
    is_unit u (inl was) = absurd (nothing_contained u was)
    is_unit u (inr it) = of_member u (any_here (λ (s : ℕ). is_member of_unit s u) numbers it)

    has_set : (u : ℕ) → list_any (set_has sets (set_of of_unit u)) cells ≡ true → list_any (λ (s : ℕ). is_member of_unit s u) numbers ≡ true
    has_set u it =
        here_any (λ (s : ℕ). is_member of_unit s u) numbers (set_of of_unit u) (number_all (set_of of_unit u) (sets_found.all (set_of of_unit u) it))
        (member_here of_unit (set_of of_unit u) u (some_set (set_of of_unit u) it) refl)

    pub those_shared : AreThoseWith (held_of sets of_unit) cells units
    those_shared = record {
      rising = rising;
      each = λ u there. is_unit u (units_found.each u (unit_each u there));
      all = λ u it. unit_all u (units_found.all u (has_set u (sym (any_view u cells) ∙ it)));
    }

-- A set without a hint from a cell doesn't have it, and no unit has what no set has

pub none_chained : (may : Bool) (sets : List (List Cell)) (readers : Chains) (c : Cell) (number : ℕ) → number ≡ cell_number c → AreReaders sets readers →
    OnFalse may ((set : ℕ) → InChain readers number set → ⊥) → OnFalse may ((set : ℕ) → set_has sets set c ≡ false)
none_chained true sets readers c number is are none = tt
none_chained false sets readers c number is are none = λ set.
    false_from_ne_true (set_has sets set c) (λ there. none set (subst (λ (key : ℕ). InChain readers key set) (sym is) (are set c there)))

pub none_have : (may : Bool) (sets : List (List Cell)) (of_unit : List ℕ) (c : Cell) → OnFalse may ((set : ℕ) → set_has sets set c ≡ false) →
    OnFalse may ((u : ℕ) → has (held_of sets of_unit) u c ≡ false)
none_have true sets of_unit c none = tt
none_have false sets of_unit c none = λ u. has_view sets of_unit u c ∙ none (set_of of_unit u)

nothing_in : (sets : List (List Cell)) (set : ℕ) → length sets ≡ 0 → cells_of_set sets set ≡ []
nothing_in sets zero none = refl
nothing_in [] (suc place) none = refl
nothing_in (own ∷ sets) (suc place) none = absurd (omega (arith, none))

pub none_in : (unused : Bool) (sets : List (List Cell)) (of_unit : List ℕ) → unused ≡ (length sets == 0) →
    OnTrue unused ((u : ℕ) (c : Cell) → has (held_of sets of_unit) u c ≡ false)
none_in false sets of_unit is = tt
none_in true sets of_unit is = λ u c.
    has_view sets of_unit u c ∙ ap (λ (own : List Cell). is_among own c) (nothing_in sets (set_of of_unit u) (eqb-true (length sets) 0 (sym is)))

-- What becomes of units after they stayed as they were

pub adds_after : (first mid new : List (List Cell)) (unit : ℕ) (cells : List Cell) → Stays first mid → Adds unit cells mid new → Adds unit cells first new
adds_after first mid new unit cells stays adds u c = adds u c ∙ ap (λ (b : Bool). b || ((u == unit) && is_among cells c)) (stays u c)

pub stays_after : (first mid new : List (List Cell)) → Stays first mid → Stays mid new → Stays first new
stays_after first mid new stays after u c = after u c ∙ stays u c

-- What follows where a call came to an end, or wanted memory

pub ok_then : {A E : Type 0} {P Q : Type 0} (r : Result A E) → (P → Q) → OnOk r P → OnOk r Q
ok_then (Ok v) f it = f it
ok_then (Err e) f it = tt

pub err_then : {A E : Type 0} {P Q : Type 0} (r : Result A E) → (P → Q) → OnErr r P → OnErr r Q
err_then (Ok v) f it = tt
err_then (Err e) f it = f it

pub err_any : {A E : Type 0} {P : Type 0} (r : Result A E) → P → OnErr r P
err_any (Ok v) it = tt
err_any (Err e) it = it

pub if_ok_then : {A E : Type 0} {P Q : A → Type 0} (r : Result A E) → ((x : A) → P x → Q x) → IfOk r P → IfOk r Q
if_ok_then (Ok v) f it = f v it
if_ok_then (Err e) f it = tt

pub none_any : {A : Type 0} {P : Type 0} (r : Option A) → P → IfNone r P
none_any (Some v) it = tt
none_any None it = it
