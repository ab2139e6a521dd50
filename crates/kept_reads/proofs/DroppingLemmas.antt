-- What becomes of kept reads where those with something touched are dropped.
use Rattle.std.proofs.Common.{◌≡◌, ◌≢◌, ◌∙◌, ℕ, ◌/◌, ◌<◌, Bool, true, false, ◌||◌, List, [], ◌∷◌, length, set, slice_index_or, Option, None, Some, IfNone, refl, sym, ap, subst, inl, inr, ◌⊎◌, arith, get_or-set_other, get_or-set_same, length-set}
use Rattle.std.proofs.lemmas.Bool.{cases_eq, cases_lt, false≢true, or_left, or_parts, or_right}
use Rattle.std.proofs.lemmas.List.{get_or_past}
use Rattle.std.specs.Cmp.{IsTotalOrder, tied_itself}
use Rattle.std.specs.declared.cmp.Ordering.{Ordering}
use Rattle.std.specs.FinSet.{contains-items, items}
use Rattle.std.specs.List.{list_any}
use Rattle.std.specs.Ordering.{eq_by_cmp, is_eq}
use Rattle.doc_tree.specs.cell.Cell.{Cell}
use Rattle.doc_tree.specs.Table.{Table}
use Rattle.cover_laws.specs.Covering.{has_touched, has_touched_name, holds_touched, names_at}
use Rattle.xp_outcome.proofs.Sets.{cell_cmp_antisymmetric, cell_cmp_total, names_cmp_antisymmetric, names_cmp_total}
use Rattle.xp_outcome.specs.Evaluation.{Read, cell, names_along, variable}
use Rattle.xp_outcome.specs.Recorded.{Recorded}
use Rattle.kept_reads.specs.declared.kept_reads.KeptReads.{KeptReads}
use Rattle.kept_reads.specs.Reads.{has_kept, may_be_stale, reads_at}
use Rattle.kept_reads.specs.Marking.{Marks, Thinned, entry_stays, entry_dropped, Thins, reads_touched}
use Rattle.kept_reads.specs.inner.Dropping.{DropsReads, DropsTouched, IsFreeOf, is_touched}
use Rattle.xp_outcome.proofs.SetTests.{listed}

-- Flags

pub flag_there : (blocks : List Bool) (block : ℕ) → slice_index_or (set blocks block true) block true ≡ true
flag_there blocks block = elim (cases_lt block (length blocks)) [
  | inl below ↦ get_or-set_same blocks block true true below
  | inr past ↦ get_or_past (set blocks block true) block true (omega (arith, length-set blocks block true, past))
]

pub flag_still : (blocks : List Bool) (block other : ℕ) → slice_index_or blocks other true ≡ true →
    slice_index_or (set blocks block true) other true ≡ true
flag_still blocks block other was = elim (cases_eq other block) [
  | inl same ↦ subst (λ (k : ℕ). slice_index_or (set blocks block true) k true ≡ true) (sym same) (flag_there blocks block)
  | inr differ ↦ get_or-set_other blocks block other true true differ ∙ was
]

pub none_there : (entries : List (Option Recorded)) (place : ℕ) → reads_at (set entries place None) place ≡ None
none_there entries place = elim (cases_lt place (length entries)) [
  | inl below ↦ get_or-set_same entries place None None below
  | inr past ↦ get_or_past (set entries place None) place None (omega (arith, length-set entries place None, past))
]

-- Reads that are dropped

thinned_then : (T : Table) (touched : Cell → Bool) (width place : ℕ) (first next : List Bool) (a b c : Option Recorded) →
    ((row : ℕ) → may_be_stale first row ≡ true → may_be_stale next row ≡ true) →
    Thinned T touched width place first a b → Thinned T touched width place next b c → Thinned T touched width place next a c
thinned_then T touched width place first next a b c still (entry_stays one) (entry_stays other) = entry_stays (other ∙ one)
thinned_then T touched width place first next a b c still (entry_stays one) (entry_dropped hit none stale) =
    entry_dropped (ap (reads_touched T touched) (sym one) ∙ hit) none stale
thinned_then T touched width place first next a b c still (entry_dropped hit none stale) (entry_stays other) =
    entry_dropped hit (other ∙ none) (λ wide. still (place / width) (stale wide))
thinned_then T touched width place first next a b c still (entry_dropped hit none stale) (entry_dropped again gone later) = entry_dropped hit gone
    later

module _ (T : Table) (touched : Cell → Bool) (width : ℕ) where
  pub thins_alike : (old new : KeptReads) → new.entries ≡ old.entries → new.stale_blocks ≡ old.stale_blocks → Thins T touched width old new
  thins_alike old new entries blocks = record {
    places = ap length entries;
    entries = λ place. entry_stays (ap (λ (xs : List (Option Recorded)). reads_at xs place) entries);
    blocks = ap (λ v. length v.items) blocks;
    still = λ row was. ap (λ v. may_be_stale v.items row) blocks ∙ was;
  }

  pub thins_then : (old mid new : KeptReads) → Thins T touched width old mid → Thins T touched width mid new → Thins T touched width old new
  thins_then old mid new first next = record {
    places = next.places ∙ first.places;
    entries =
        λ place. thinned_then T touched width place mid.stale_blocks.items new.stale_blocks.items (reads_at old.entries place)
        (reads_at mid.entries place)
        (reads_at new.entries place) next.still (first.entries place) (next.entries place);
    blocks = next.blocks ∙ first.blocks;
    still = λ row was. next.still row (first.still row was);
  }

  -- one is dropped
  pub thins_drop : (old new : KeptReads) (place row : ℕ) → reads_touched T touched (reads_at old.entries place) ≡ true →
      new.entries ≡ set old.entries place None →
      (0 < width → row ≡ place / width) → new.stale_blocks.items ≡ set old.stale_blocks.items (row / 64) true → Thins T touched width old new
  thins_drop old new place row hit entries row_is blocks = record {
    places = ap length entries ∙ length-set old.entries place None;
    entries = λ at. by at (cases_eq at place);
    blocks = ap length blocks ∙ length-set old.stale_blocks.items (row / 64) true;
    still = λ other was. ap (λ (flags : List Bool). may_be_stale flags other) blocks ∙ flag_still old.stale_blocks.items (row / 64) (other / 64) was;
  }
    where
      by : (at : ℕ) → (at ≡ place) ⊎ (at ≢ place) →
          Thinned T touched width at new.stale_blocks.items (reads_at old.entries at) (reads_at new.entries at)
      by at (inl same) = entry_dropped
          (ap (λ (k : ℕ). reads_touched T touched (reads_at old.entries k)) same ∙ hit)
          (ap (λ (xs : List (Option Recorded)). reads_at xs at) entries
          ∙ subst (λ (k : ℕ). reads_at (set old.entries place None) k ≡ None) (sym same) (none_there old.entries place))
          (λ wide. subst (λ (k : ℕ). may_be_stale new.stale_blocks.items k ≡ true) (row_is wide ∙ ap (λ (k : ℕ). k / width) (sym same))
          (ap (λ (flags : List Bool). may_be_stale flags row) blocks ∙ flag_there old.stale_blocks.items (row / 64)))
      by at (inr differ) =
          entry_stays (ap (λ (xs : List (Option Recorded)). reads_at xs at) entries ∙ get_or-set_other old.entries place at None None differ)

-- What was touched

or_right_false : (b : Bool) → (b || false) ≡ true → b ≡ true
or_right_false true is = refl
or_right_false false is = is

both_false : (a b : Bool) → a ≡ false → b ≡ false → (a || b) ≡ false
both_false true b none other = none
both_false false b none other = other

module _ {K : Type 0} {R : K → K → Ordering} (o : IsTotalOrder R) (p : K → Bool) where
  any_one : (x : K) (items : List K) (b : Bool) → p x ≡ b → (p x ≡ true → list_any (eq_by_cmp R x) (x ∷ items) ≡ false) →
      list_any p items ≡ false → (b || list_any p items) ≡ false
  any_one x items true hit absent rest =
      absurd (false≢true (sym (absent hit) ∙ or_left (eq_by_cmp R x x) (list_any (eq_by_cmp R x) items) (ap is_eq (tied_itself o x))))
  any_one x items false miss absent rest = rest

  -- where each that passes is missing, none passes
  any_absent : (items : List K) → ((k : K) → p k ≡ true → list_any (eq_by_cmp R k) items ≡ false) → list_any p items ≡ false
  any_absent [] absent = refl
  any_absent (x ∷ items) absent =
      any_one x items (p x) refl (absent x)
      (any_absent items (λ k hit. (or_parts (eq_by_cmp R k x) (list_any (eq_by_cmp R k) items) (absent k hit)).1))

module _ (T : Table) (touched : Cell → Bool) where
  -- what was read is touched with something of it
  touched_there : (held : Recorded) (r : Read) → is_touched T touched r ≡ true → has_kept (Some held) r ≡ true → holds_touched T touched held ≡ true
  touched_there held (cell c) hit there =
      or_left (has_touched touched held.cells) (has_touched_name T touched held.names)
      (listed cell_cmp_total cell_cmp_antisymmetric touched c (or_right_false (touched c) hit) (items held.cells)
      (sym (contains-items held.cells c) ∙ there))
  touched_there held (names_along axis n) hit there =
      or_right (has_touched touched held.cells) (has_touched_name T touched held.names)
      (listed names_cmp_total names_cmp_antisymmetric (λ a. list_any touched (names_at T a)) (record { axis = axis; node = n }) hit
      (items held.names)
      (sym (contains-items held.names (record { axis = axis; node = n })) ∙ there))
  touched_there held (variable slot) hit there = absurd (false≢true there)

  -- and with nothing else
  none_where_absent : (held : Recorded) → ((r : Read) → is_touched T touched r ≡ true → has_kept (Some held) r ≡ false) →
      holds_touched T touched held ≡ false
  none_where_absent held absent =
      both_false (has_touched touched held.cells) (has_touched_name T touched held.names)
      (any_absent cell_cmp_total touched (items held.cells)
      (λ c hit. sym (contains-items held.cells c) ∙ absent (cell c) (or_left (touched c) false hit)))
      (any_absent names_cmp_total (λ a. list_any touched (names_at T a)) (items held.names)
      (λ a hit. sym (contains-items held.names a) ∙ absent (names_along a.axis a.node) hit))

  -- of what no unit has read none has where some are dropped
  free_after : (width place : ℕ) (blocks : List Bool) (r : Read) (before after : Option Recorded) →
      Thinned T touched width place blocks before after → has_kept before r ≡ false → has_kept after r ≡ false
  free_after width place blocks r before after (entry_stays same) free = ap (λ (entry : Option Recorded). has_kept entry r) same ∙ free
  free_after width place blocks r before after (entry_dropped hit none stale) free = ap (λ (entry : Option Recorded). has_kept entry r) none

  free_on : (width : ℕ) (old new : KeptReads) (r : Read) → Thins T touched width old new → IsFreeOf r old → IsFreeOf r new
  free_on width old new r thins free place =
      free_after width place new.stale_blocks.items r (reads_at old.entries place) (reads_at new.entries place) (thins.entries place) (free place)

  -- a unit that has read something touched
  hit_there : (entry : Option Recorded) (r : Read) → is_touched T touched r ≡ true → has_kept entry r ≡ true → reads_touched T touched entry ≡ true
  hit_there None r hit there = absurd (false≢true there)
  hit_there (Some held) r hit there = touched_there held r hit there

-- Some reads

module _ (T : Table) (touched : Cell → Bool) (width : ℕ) where
  -- some, and then others
  pub drops_then : (A B : Read → Type 0) (old mid new : KeptReads) → DropsTouched T touched width A old mid → DropsTouched T touched width B mid new →
      DropsTouched T touched width (λ r. A r ⊎ B r) old new
  drops_then A B old mid new one other all =
      let first = one (λ r is. all r (inl is)) in
      let next = other (λ r is. all r (inr is)) in
      record {
        thins = thins_then T touched width old mid new first.thins next.thins;
        free = λ r is. (elim is [ inl a ↦ free_on T touched width mid new r next.thins (first.free r a) | inr b ↦ next.free r b ]);
      }

  -- the same, told otherwise
  pub drops_where : (A B : Read → Type 0) (old new : KeptReads) → ((r : Read) → A r → B r) → ((r : Read) → B r → A r) →
      DropsTouched T touched width A old new → DropsTouched T touched width B old new
  drops_where A B old new to back drops all =
      let d = drops (λ r a. all r (to r a)) in
      record { thins = d.thins; free = λ r b. d.free r (back r b) }

  -- none
  pub drops_none : (A : Read → Type 0) (reads : KeptReads) → ((r : Read) → A r → ⊥) → DropsTouched T touched width A reads reads
  drops_none A reads none all = record { thins = thins_alike T touched width reads reads refl refl; free = λ r a. absurd (none r a) }

  -- such as no unit has read
  pub drops_free : (A : Read → Type 0) (reads : KeptReads) → ((r : Read) → A r → IsFreeOf r reads) → DropsTouched T touched width A reads reads
  drops_free A reads free all = record { thins = thins_alike T touched width reads reads refl refl; free = free }

  -- where all that is touched is free, no unit has read something touched
  clean_where_free : (entry : Option Recorded) → ((r : Read) → is_touched T touched r ≡ true → has_kept entry r ≡ false) →
      reads_touched T touched entry ≡ false
  clean_where_free None free = refl
  clean_where_free (Some held) free = none_where_absent T touched held free

  pub marks_all : (A : Read → Type 0) (old new : KeptReads) → ((r : Read) → A r → is_touched T touched r ≡ true) →
      ((r : Read) → is_touched T touched r ≡ true → A r) → DropsTouched T touched width A old new → Marks T touched width old new
  marks_all A old new hits covers drops =
      let d = drops hits in
      record {
        thins = d.thins;
        clean = λ place. clean_where_free (reads_at new.entries place) (λ r hit. d.free r (covers r hit) place);
      }

-- what holds where there is none
pub none_gives : {A : Type 0} (o : Option A) (P : Type 0) → o ≡ None → IfNone o P → P
none_gives {A} o P is holds = subst (λ (r : Option A). IfNone r P) is holds

-- The units that have read something are taken one by one

module _ (T : Table) (touched : Cell → Bool) (width : ℕ) (r : Read) (hit : is_touched T touched r ≡ true) where
  pub taken_on : (first old mid new : KeptReads) (place row : ℕ) → has_kept (reads_at old.entries place) r ≡ true →
      mid.entries ≡ set old.entries place None → mid.stale_blocks ≡ old.stale_blocks →
      new.entries ≡ mid.entries → (0 < width → row ≡ place / width) → new.stale_blocks.items ≡ set mid.stale_blocks.items (row / 64) true →
      Thins T touched width first old → Thins T touched width first new
  taken_on first old mid new place row there dropped blocks entries row_is flagged so_far =
      thins_then T touched width first old new so_far
      (thins_drop T touched width old new place row (hit_there T touched (reads_at old.entries place) r hit there) (entries ∙ dropped) row_is
      (flagged ∙ ap (λ v. set v.items (row / 64) true) blocks))

  pub taken_all : (first old new : KeptReads) → new ≡ old → IsFreeOf r old → Thins T touched width first old →
      DropsReads T touched width (λ q. q ≡ r) first new
  taken_all first old new same free so_far = record {
    thins = subst (Thins T touched width first) (sym same) so_far;
    free = λ q is. subst (λ (reads : KeptReads). IsFreeOf q reads) (sym same) (subst (λ (k : Read). IsFreeOf k old) (sym is) free);
  }
