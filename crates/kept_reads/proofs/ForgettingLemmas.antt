-- Units that read a let which has another outcome are forgotten one after another.
use Rattle.std.proofs.Common.{◌≡◌, ◌∙◌, ◌⊎◌, ℕ, ◌+◌, ◌/◌, ◌<◌, ◌≤◌, Bool, true, false, ◌||◌, List, [], ◌∷◌, length, Option, None, Some, is_none, if◌then◌else◌, refl, sym, ap, subst, inl, inr, arith, get_or-set_other, length-set}
use Rattle.std.proofs.lemmas.Bool.{cases_eq, cases_lt, true≢false}
use Rattle.std.proofs.lemmas.List.{get_or_past}
use Rattle.std.specs.Cmp.{nat_cmp_total}
use Rattle.std.specs.FinMap.{nat_cmp-IsAntisymmetric}
use Rattle.std.specs.FinSet.{from_list, items}
use Rattle.std.specs.List.{list_any}
use Rattle.xp_outcome.specs.Recorded.{LetSet, Recorded}
use Rattle.kept_reads.specs.declared.kept_reads.KeptReads.{KeptReads}
use Rattle.kept_reads.specs.Forgetting.{Forgets, ForgetsReaders, flag_at, reads_flagged, unless_flagged}
use Rattle.kept_reads.specs.Reads.{lets_kept, lets_told, may_be_stale, reads_at}
use Rattle.kept_reads.specs.inner.Forgetting.{Fades, ForgetsBelow, ForgetsIf}
use Rattle.kept_reads.proofs.DroppingLemmas.{flag_still, flag_there, none_there}
use Rattle.xp_outcome.proofs.SetTests.{any_from_list}

was_false : (a b : Bool) → (a ≡ true → b ≡ true) → b ≡ false → a ≡ false
was_false true b on clean = absurd (true≢false (sym (on refl) ∙ clean))
was_false false b on clean = refl

-- Flags

none_flagged : (flags : List Bool) → ((slot : ℕ) → flag_at flags slot ≡ false) → (slots : List ℕ) → list_any (flag_at flags) slots ≡ false
none_flagged flags none [] = refl
none_flagged flags none (slot ∷ slots) = ap (λ (b : Bool). b || list_any (flag_at flags) slots) (none slot) ∙ none_flagged flags none slots

pub all_stay : (flags : List Bool) → ((slot : ℕ) → flag_at flags slot ≡ false) → (entry : Option Recorded) → unless_flagged flags entry ≡ entry
all_stay flags none None = refl
all_stay flags none (Some held) = ap (λ (b : Bool). if b then None else Some held) (none_flagged flags none (items held.lets))

-- a unit that read no such let stays, and one that did is forgotten
pub stays_unflagged : (flags : List Bool) (entry : Option Recorded) → reads_flagged flags entry ≡ false → entry ≡ unless_flagged flags entry
stays_unflagged flags None none = refl
stays_unflagged flags (Some held) none = sym (ap (λ (b : Bool). if b then None else Some held) none)

pub gone_flagged : (flags : List Bool) (entry : Option Recorded) → reads_flagged flags entry ≡ true → None ≡ unless_flagged flags entry
gone_flagged flags None found = refl
gone_flagged flags (Some held) found = sym (ap (λ (b : Bool). if b then None else Some held) found)

-- a unit that has read such a let is as one that is stale
pub flagged_none : (flags : List Bool) (held : Recorded) → list_any (flag_at flags) (items held.lets) ≡ is_none (unless_flagged flags (Some held))
flagged_none flags held = by (list_any (flag_at flags) (items held.lets))
  where
    by : (b : Bool) → b ≡ is_none (if b then None else Some held)
    by true = refl
    by false = refl

-- what is told of the lets of a unit tells whether one of them has another outcome
pub told_some : (flags : List Bool) (slots : List ℕ) (entry : Option Recorded) → lets_told (Some slots) ≡ lets_kept entry →
    list_any (flag_at flags) slots ≡ is_none (unless_flagged flags entry)
told_some flags slots None is = absurd (cc)
told_some flags slots (Some held) is =
    let same : from_list slots ≡ held.lets = cc in
    sym (any_from_list nat_cmp_total nat_cmp-IsAntisymmetric (flag_at flags) slots)
    ∙ ap (λ (lets : LetSet). list_any (flag_at flags) (items lets)) same ∙ flagged_none flags held

pub told_none : (flags : List Bool) (entry : Option Recorded) → lets_told None ≡ lets_kept entry → true ≡ is_none (unless_flagged flags entry)
told_none flags None is = refl
told_none flags (Some held) is = absurd (cc)

pub told_hit : (flags : List Bool) (slots : List ℕ) (entry : Option Recorded) → lets_told (Some slots) ≡ lets_kept entry →
    list_any (flag_at flags) slots ≡ reads_flagged flags entry
told_hit flags slots None is = absurd (cc)
told_hit flags slots (Some held) is =
    let same : from_list slots ≡ held.lets = cc in
    sym (any_from_list nat_cmp_total nat_cmp-IsAntisymmetric (flag_at flags) slots) ∙ ap (λ (lets : LetSet). list_any (flag_at flags) (items lets)) same

pub told_miss : (flags : List Bool) (entry : Option Recorded) → lets_told None ≡ lets_kept entry → false ≡ reads_flagged flags entry
told_miss flags None is = refl
told_miss flags (Some held) is = absurd (cc)

-- no flag is set past the end
pub none_past : (flags : List Bool) (i : ℕ) → length flags ≤ i → ((slot : ℕ) → slot < i → flag_at flags slot ≡ false) → (slot : ℕ) →
    flag_at flags slot ≡ false
none_past flags i past none slot = elim (cases_lt slot i) [
  | inl below ↦ none slot below
  | inr behind ↦ get_or_past flags slot false (omega (arith, past, behind))
]

-- One place

pub fades_alike : (old new : KeptReads) → new ≡ old → Fades old new
fades_alike old new same = record {
  places = ap (λ (k : KeptReads). length k.entries) same;
  blocks = ap (λ (k : KeptReads). length k.stale_blocks.items) same;
  still = λ row was. ap (λ (k : KeptReads). may_be_stale k.stale_blocks.items row) same ∙ was;
}

fades_then : (old mid new : KeptReads) → Fades old mid → Fades mid new → Fades old new
fades_then old mid new first next = record {
  places = next.places ∙ first.places;
  blocks = next.blocks ∙ first.blocks;
  still = λ row was. next.still row (first.still row was);
}

pub forgets_here : (flags : List Bool) (place width : ℕ) (old new : KeptReads) → reads_flagged flags (reads_at old.entries place) ≡ true →
    Forgets place width old new → ForgetsIf flags place width old new
forgets_here flags place width old new found forgets = record {
  fades = record {
    places = ap length forgets.entries ∙ length-set old.entries place None;
    blocks = ap length forgets.blocks ∙ length-set old.stale_blocks.items (place / width / 64) true;
    still = λ row was. ap (λ (xs : List Bool). may_be_stale xs row) forgets.blocks
        ∙ flag_still old.stale_blocks.items (place / width / 64) (row / 64) was;
  };
  here = gone ∙ gone_flagged flags (reads_at old.entries place) found;
  others = λ at differ. ap (λ (xs : List (Option Recorded)). reads_at xs at) forgets.entries ∙ get_or-set_other old.entries place at None None differ;
  clean = λ clean had. absurd (true≢false (sym flagged ∙ clean));
}
  where
    flagged : may_be_stale new.stale_blocks.items (place / width) ≡ true
    flagged =
        ap (λ (xs : List Bool). may_be_stale xs (place / width)) forgets.blocks ∙ flag_there old.stale_blocks.items (place / width / 64)

    gone : reads_at new.entries place ≡ None
    gone = ap (λ (xs : List (Option Recorded)). reads_at xs place) forgets.entries ∙ none_there old.entries place

pub stays_here : (flags : List Bool) (place width : ℕ) (old new : KeptReads) → reads_flagged flags (reads_at old.entries place) ≡ false → new ≡ old →
    ForgetsIf flags place width old new
stays_here flags place width old new none same = record {
  fades = fades_alike old new same;
  here = ap (λ (k : KeptReads). reads_at k.entries place) same ∙ stays_unflagged flags (reads_at old.entries place) none;
  others = λ at differ. ap (λ (k : KeptReads). reads_at k.entries at) same;
  clean = λ clean had. ap (λ (k : KeptReads). is_none (reads_at k.entries place)) same ∙ had;
}

-- All places

pub below_begin : (flags : List Bool) (width : ℕ) (reads : KeptReads) → ForgetsBelow flags 0 width reads reads
below_begin flags width reads = record {
  fades = fades_alike reads reads refl;
  below = λ at below. absurd (omega (arith, below));
  past = λ at past. refl;
  clean = λ at clean had. had;
}

pub below_on : (flags : List Bool) (place width : ℕ) (old mid new : KeptReads) → ForgetsBelow flags place width old mid →
    ForgetsIf flags place width mid new → ForgetsBelow flags (place + 1) width old new
below_on flags place width old mid new so_far one = record {
  fades = fades_then old mid new so_far.fades one.fades;
  below = λ at below. (elim (cases_eq at place) [
    | inl same ↦ subst (λ (k : ℕ). reads_at new.entries k ≡ unless_flagged flags (reads_at old.entries k)) (sym same)
        (one.here ∙ ap (unless_flagged flags) (so_far.past place (omega arith)))
    | inr differ ↦ one.others at differ ∙ so_far.below at (omega (arith, below, differ))
  ]);
  past = λ at past. one.others at (λ same. omega (arith, past, same)) ∙ so_far.past at (omega (arith, past));
  clean = λ at clean had. by at clean had (so_far.clean at (before at clean) had) (cases_eq at place);
}
  where
    before : (at : ℕ) → may_be_stale new.stale_blocks.items (at / width) ≡ false → may_be_stale mid.stale_blocks.items (at / width) ≡ false
    before at clean =
        was_false (may_be_stale mid.stale_blocks.items (at / width)) (may_be_stale new.stale_blocks.items (at / width))
        (one.fades.still (at / width)) clean

    by : (at : ℕ) → may_be_stale new.stale_blocks.items (at / width) ≡ false → is_none (reads_at old.entries at) ≡ false →
        is_none (reads_at mid.entries at) ≡ false →
        (at ≡ place) ⊎ (at ≡ place → ⊥) → is_none (reads_at new.entries at) ≡ false
    by at clean had kept (inl same) =
        subst (λ (k : ℕ). is_none (reads_at new.entries k) ≡ false) (sym same)
        (one.clean (subst (λ (k : ℕ). may_be_stale new.stale_blocks.items (k / width) ≡ false) same clean)
        (subst (λ (k : ℕ). is_none (reads_at mid.entries k) ≡ false) same kept))
    by at clean had kept (inr differ) = ap is_none (one.others at differ) ∙ kept

pub below_all : (flags : List Bool) (place width : ℕ) (old new : KeptReads) → length old.entries ≤ place → ForgetsBelow flags place width old new →
    ForgetsReaders flags width old new
below_all flags place width old new past so_far = record {
  places = so_far.fades.places;
  entries = λ at. (elim (cases_lt at place) [
    | inl below ↦ so_far.below at below
    | inr behind ↦ so_far.past at behind ∙ end at (omega (arith, past, behind))
  ]);
  blocks = so_far.fades.blocks;
  still = so_far.fades.still;
  clean = so_far.clean;
}
  where
    end : (at : ℕ) → length old.entries ≤ at → reads_at old.entries at ≡ unless_flagged flags (reads_at old.entries at)
    end at behind =
        let none : reads_at old.entries at ≡ None = get_or_past old.entries at None behind in
        none ∙ ap (unless_flagged flags) (sym none)

-- where no flag is set all stays
pub none_forgotten : (flags : List Bool) (width : ℕ) (reads : KeptReads) → ((slot : ℕ) → flag_at flags slot ≡ false) →
    ForgetsReaders flags width reads reads
none_forgotten flags width reads none = record {
  places = refl;
  entries = λ place. sym (all_stay flags none (reads_at reads.entries place));
  blocks = refl;
  still = λ row was. was;
  clean = λ place clean had. had;
}
