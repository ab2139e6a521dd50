-- What units have read, by the cells that four indexes have of them.
use Rattle.std.proofs.Common.{◌≡◌, ◌≢◌, ◌∙◌, ℕ, ◌==◌, Bool, true, false, not, ◌||◌, ◌&&◌, List, Option, None, Some, IfNone, IfSome, refl, sym, ap, inl, inr}
use Rattle.std.proofs.lemmas.Bool.{cases_eq, eq-eqb, eqb-true, false_from_ne_true}
use Rattle.std.proofs.lemmas.List.Folds.{list_any-append}
use Rattle.std.specs.Bool.{OnFalse, OnTrue}
use Rattle.doc_tree.specs.cell.Cell.{Cell}
use Rattle.doc_tree.specs.declared.axes.Axis.{Axis}
use Rattle.xp_outcome.specs.declared.names_along.NamesAlong.{NamesAlong}
use Rattle.xp_outcome.specs.Evaluation.{Read, cell, names_along, variable}
use Rattle.cell_index.specs.Cells.{is_among, is_cell}
use Rattle.cell_index.specs.Index.{cells_of, has}
use Rattle.cell_index.specs.Index as cell_index
use Rattle.read_index.specs.declared.read_index.ReadIndex.{ReadIndex}
use Rattle.read_index.specs.Names.{is_far, is_named}
use Rattle.read_index.specs.ReadIndex.{Adds, Removes, Stays, has_read}
use Rattle.read_index.specs.inner.Filing.{AddsNames, SameElsewhere, StaysElsewhere, filed, filed_part}
use Rattle.read_index.specs.inner.Parting.{AddsToBoth, has_either}
use Rattle.read_index.proofs.FilingLemmas.{named_far, named_near}

-- a unit has read a cell where it has it in one of two indexes
cell_read : (index : ReadIndex) (u : ℕ) (c : Cell) → has_read index u (cell c) ≡ has_either index.cells index.named u c
cell_read index u c = list_any-append (is_cell c) (cells_of index.cells u) (cells_of index.named u)

either_same : (a b p q : Bool) → a ≡ p → b ≡ q → (a || b) ≡ (p || q)
either_same a b p q first second = ap (λ (x : Bool). x || b) first ∙ ap (λ (y : Bool). p || y) second

-- a unit has read names along an axis where it has their cell
pub filed_read : (index : ReadIndex) (u : ℕ) (axis : Axis) (n : ℕ) (far : Bool) → is_far axis ≡ far →
    has_read index u (names_along axis n) ≡ has (filed_part index far) u (filed axis n)
filed_read index u axis n false is = named_near (cells_of index.near u) (cells_of index.far u) (record { axis = axis; node = n }) is
filed_read index u axis n true is = named_far (cells_of index.near u) (cells_of index.far u) (record { axis = axis; node = n }) is

-- Nothing is read

module _ (index : ReadIndex) (cells_none : (u : ℕ) (c : Cell) → has index.cells u c ≡ false)
    (named_none : (u : ℕ) (c : Cell) → has index.named u c ≡ false)
    (near_none : (u : ℕ) (c : Cell) → has index.near u c ≡ false)
    (far_none : (u : ℕ) (c : Cell) → has index.far u c ≡ false) where
  part_none : (far : Bool) (u : ℕ) (c : Cell) → has (filed_part index far) u c ≡ false
  part_none false = near_none
  part_none true = far_none

  pub none_read : (u : ℕ) (r : Read) → has_read index u r ≡ false
  none_read u (cell c) =
      cell_read index u c ∙ either_same (has index.cells u c) (has index.named u c) false false (cells_none u c) (named_none u c)
  none_read u (names_along axis n) = filed_read index u axis n (is_far axis) refl ∙ part_none (is_far axis) u (filed axis n)
  none_read u (variable slot) = refl

pub may_read : (may : Bool) (index : ReadIndex) (axis : Axis) (n : ℕ) (far : Bool) → is_far axis ≡ far →
    OnFalse may ((u : ℕ) → has (filed_part index far) u (filed axis n) ≡ false) →
    OnFalse may ((u : ℕ) → has_read index u (names_along axis n) ≡ false)
may_read true index axis n far is none = tt
may_read false index axis n far is none = λ u. filed_read index u axis n far is ∙ none u

pub may_read_far : (unused : Bool) (index : ReadIndex) → OnTrue unused ((u : ℕ) (c : Cell) → has index.far u c ≡ false) →
    OnFalse (not unused) ((u : ℕ) (axis : Axis) (n : ℕ) → is_far axis ≡ true → has_read index u (names_along axis n) ≡ false)
may_read_far true index none = λ u axis n far. filed_read index u axis n true far ∙ none u (filed axis n)
may_read_far false index none = tt

-- Indexes where one unit alone changes

part_elsewhere : (unit : ℕ) (old new : ReadIndex) → SameElsewhere unit old new → (far : Bool) →
    StaysElsewhere unit (filed_part old far) (filed_part new far)
part_elsewhere unit old new same false = same.near
part_elsewhere unit old new same true = same.far

read_elsewhere : (unit : ℕ) (old new : ReadIndex) → SameElsewhere unit old new → (u : ℕ) → u ≢ unit → (r : Read) → has_read new u r ≡ has_read old u r
read_elsewhere unit old new same u differ (cell c) =
    cell_read new u c
    ∙ either_same (has new.cells u c) (has new.named u c) (has old.cells u c) (has old.named u c) (same.cells u c differ) (same.named u c differ)
    ∙ sym (cell_read old u c)
read_elsewhere unit old new same u differ (names_along axis n) =
    filed_read new u axis n (is_far axis) refl ∙ part_elsewhere unit old new same (is_far axis) u (filed axis n) differ
    ∙ sym (filed_read old u axis n (is_far axis) refl)
read_elsewhere unit old new same u differ (variable slot) = refl

apart : (u unit : ℕ) → u ≢ unit → (u == unit) ≡ false
apart u unit differ = false_from_ne_true (u == unit) (λ same. differ (eqb-true u unit same))

and_false : (a b : Bool) → b ≡ false → (a && b) ≡ false
and_false true b is = is
and_false false b is = refl

-- a unit is removed from all of them
part_removes : (unit : ℕ) (old new : ReadIndex) → cell_index.Removes unit old.near new.near → cell_index.Removes unit old.far new.far → (far : Bool) →
    cell_index.Removes unit (filed_part old far) (filed_part new far)
part_removes unit old new near far false = near
part_removes unit old new near far true = far

either_kept : (a b kept : Bool) → ((a && kept) || (b && kept)) ≡ ((a || b) && kept)
either_kept false b kept = refl
either_kept true b true = refl
either_kept true b false = and_false b false refl

pub removes_all : (unit : ℕ) (old new : ReadIndex) → cell_index.Removes unit old.cells new.cells → cell_index.Removes unit old.named new.named →
    cell_index.Removes unit old.near new.near → cell_index.Removes unit old.far new.far → Removes unit old new
removes_all unit old new cells named near far u (cell c) =
    let others = not (u == unit) in
    cell_read new u c
    ∙ either_same (has new.cells u c) (has new.named u c) (has old.cells u c && others) (has old.named u c && others) (cells u c) (named u c)
    ∙ either_kept (has old.cells u c) (has old.named u c) others ∙ ap (λ (b : Bool). b && others) (sym (cell_read old u c))
removes_all unit old new cells named near far u (names_along axis n) =
    filed_read new u axis n (is_far axis) refl ∙ part_removes unit old new near far (is_far axis) u (filed axis n)
    ∙ ap (λ (b : Bool). b && not (u == unit)) (sym (filed_read old u axis n (is_far axis) refl))
removes_all unit old new cells named near far u (variable slot) = refl

-- it may have been changed before
pub removes_after : (unit : ℕ) (old mid new : ReadIndex) → SameElsewhere unit old mid → Removes unit mid new → Removes unit old new
removes_after unit old mid new same removes u r = elim (cases_eq u unit) [
  | inl here ↦
      let gone : not (u == unit) ≡ false = ap not (eq-eqb u unit here) in
      removes u r ∙ and_false (has_read mid u r) (not (u == unit)) gone ∙ sym (and_false (has_read old u r) (not (u == unit)) gone)
  | inr differ ↦ removes u r ∙ ap (λ (b : Bool). b && not (u == unit)) (read_elsewhere unit old mid same u differ r)
]

-- and where it had read nothing, all is as it was
pub stays_after : (unit : ℕ) (old mid new : ReadIndex) → ((r : Read) → has_read old unit r ≡ false) → SameElsewhere unit old mid →
    Removes unit mid new → Stays old new
stays_after unit old mid new none same removes u r = elim (cases_eq u unit) [
  | inl here ↦
      removes u r ∙ and_false (has_read mid u r) (not (u == unit)) (ap not (eq-eqb u unit here))
      ∙ sym (ap (λ (v : ℕ). has_read old v r) here ∙ none r)
  | inr differ ↦ removes u r ∙ and_kept (has_read mid u r) (not (u == unit)) (ap not (apart u unit differ))
      ∙ read_elsewhere unit old mid same u differ r
]
  where
    and_kept : (a b : Bool) → b ≡ true → (a && b) ≡ a
    and_kept true b is = is
    and_kept false b is = refl

-- a unit that is taken from one of them
pub removed_elsewhere : (unit : ℕ) (old new : List (List Cell)) → cell_index.Removes unit old new → StaysElsewhere unit old new
removed_elsewhere unit old new removes u c differ = removes u c ∙ and_kept (has old u c) (not (u == unit)) (ap not (apart u unit differ))
  where
    and_kept : (a b : Bool) → b ≡ true → (a && b) ≡ a
    and_kept true b is = is
    and_kept false b is = refl

-- each has what it had
part_stays : (old new : ReadIndex) → cell_index.Stays old.near new.near → cell_index.Stays old.far new.far → (far : Bool) →
    cell_index.Stays (filed_part old far) (filed_part new far)
part_stays old new near far false = near
part_stays old new near far true = far

pub stays_all : (old new : ReadIndex) → cell_index.Stays old.cells new.cells → cell_index.Stays old.named new.named →
    cell_index.Stays old.near new.near → cell_index.Stays old.far new.far → Stays old new
stays_all old new cells named near far u (cell c) =
    cell_read new u c ∙ either_same (has new.cells u c) (has new.named u c) (has old.cells u c) (has old.named u c) (cells u c) (named u c)
    ∙ sym (cell_read old u c)
stays_all old new cells named near far u (names_along axis n) =
    filed_read new u axis n (is_far axis) refl ∙ part_stays old new near far (is_far axis) u (filed axis n)
    ∙ sym (filed_read old u axis n (is_far axis) refl)
stays_all old new cells named near far u (variable slot) = refl

-- cells and names are added
part_adds : (unit : ℕ) (names : List NamesAlong) (old new : ReadIndex) → AddsNames false unit names old.near new.near →
    AddsNames true unit names old.far new.far →
    (far : Bool) → AddsNames far unit names (filed_part old far) (filed_part new far)
part_adds unit names old new near far false = near
part_adds unit names old new near far true = far

pub adds_all : (unit : ℕ) (cells : List Cell) (names : List NamesAlong) (old new : ReadIndex) →
    AddsToBoth unit cells old.cells old.named new.cells new.named → AddsNames false unit names old.near new.near →
    AddsNames true unit names old.far new.far → Adds unit cells names old new
adds_all unit cells names old new adds near far u (cell c) =
    cell_read new u c ∙ adds u c ∙ ap (λ (b : Bool). b || ((u == unit) && is_among cells c)) (sym (cell_read old u c))
adds_all unit cells names old new adds near far u (names_along axis n) =
    filed_read new u axis n (is_far axis) refl
    ∙ part_adds unit names old new near far (is_far axis) (record { axis = axis; node = n }) refl u
    ∙ ap (λ (b : Bool). b || ((u == unit) && is_named names (record { axis = axis; node = n }))) (sym (filed_read old u axis n (is_far axis) refl))
adds_all unit cells names old new adds near far u (variable slot) = none (u == unit)
  where
    none : (b : Bool) → false ≡ (false || (b && false))
    none true = refl
    none false = refl

-- A unit that is taken for a cell

pub taken_cell : (index : ReadIndex) (unit : ℕ) (c : Cell) → has index.cells unit c ≡ true → has_read index unit (cell c) ≡ true
taken_cell index unit c there = cell_read index unit c ∙ ap (λ (b : Bool). b || has index.named unit c) there

pub taken_named : (index : ReadIndex) (unit : ℕ) (c : Cell) → has index.named unit c ≡ true → has_read index unit (cell c) ≡ true
taken_named index unit c there = cell_read index unit c ∙ ap (λ (b : Bool). has index.cells unit c || b) there ∙ or_true (has index.cells unit c)
  where
    or_true : (b : Bool) → (b || true) ≡ true
    or_true true = refl
    or_true false = refl

pub none_cell : (index : ReadIndex) (c : Cell) → ((u : ℕ) → has index.cells u c ≡ false) → ((u : ℕ) → has index.named u c ≡ false) → (u : ℕ) →
    has_read index u (cell c) ≡ false
none_cell index c cells named u = cell_read index u c ∙ either_same (has index.cells u c) (has index.named u c) false false (cells u) (named u)

pub some_then : {A : Type 0} {P Q : A → Type 0} (o : Option A) → ((v : A) → P v → Q v) → IfSome o P → IfSome o Q
some_then (Some v) next some = next v some
some_then None next some = tt

-- A unit that is taken for what is filed

pub none_then : {A P Q : Type 0} (o : Option A) → (P → Q) → IfNone o P → IfNone o Q
none_then (Some v) next none = tt
none_then None next none = next none

pub taken_filed : (index : ReadIndex) (unit : ℕ) (axis : Axis) (n : ℕ) (far : Bool) (c : Cell) → far ≡ is_far axis → c ≡ filed axis n →
    has (filed_part index far) unit c ≡ true → has_read index unit (names_along axis n) ≡ true
taken_filed index unit axis n far c is at there =
    filed_read index unit axis n far (sym is) ∙ ap (has (filed_part index far) unit) (sym at) ∙ there

pub none_filed : (index : ReadIndex) (axis : Axis) (n : ℕ) (far : Bool) (c : Cell) → far ≡ is_far axis → c ≡ filed axis n →
    ((u : ℕ) → has (filed_part index far) u c ≡ false) → (u : ℕ) → has_read index u (names_along axis n) ≡ false
none_filed index axis n far c is at none u = filed_read index u axis n far (sym is) ∙ ap (has (filed_part index far) u) (sym at) ∙ none u
