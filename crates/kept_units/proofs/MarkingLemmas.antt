-- What becomes of kept units where cells are touched.
use Rattle.std.proofs.Common.{◌≡◌, ◌∙◌, ℕ, ◌/◌, ◌<◌, ◌≤◌, nat_lt, Bool, true, false, ◌||◌, List, length, Option, None, Some, is_none, if◌then◌else◌, inl, inr, refl, sym, ap, arith}
use Rattle.std.proofs.Math.Nat.{mul-le-mul_right}
use Rattle.std.proofs.lemmas.Nat.{div-mul-add}
use Rattle.std.proofs.lemmas.Bool.{cases_lt, true≢false}
use Rattle.std.proofs.lemmas.List.{get_or_past}
use Rattle.doc_tree.specs.Laws.{WellFormed}
use Rattle.doc_tree.specs.cell.Cell.{Cell}
use Rattle.doc_tree.specs.Table.{Table, is_live}
use Rattle.doc_edit_laws.specs.Along.{Edit, Edits, EditsLeave, none, then}
use Rattle.xp_outcome.specs.Recorded.{Recorded}
use Rattle.sch_compiled.specs.declared.plan.Plan.{Plan}
use Rattle.sch_compiled.specs.Findings.{OutcomeTable, outcome_at}
use Rattle.edit_costs.specs.Units.{ValidationUnit, in_force, under}
use Rattle.kept_state.specs.Steps.{unless_touched}
use Rattle.kept_state.specs.Steps.{Marks as MarksSeen}
use Rattle.kept_reads.specs.declared.kept_reads.KeptReads.{KeptReads}
use Rattle.kept_reads.specs.Marking.{Marks, Thinned, entry_stays, entry_dropped, reads_touched}
use Rattle.kept_reads.specs.Reads.{may_be_stale, reads_at}
use Rattle.kept_units.specs.declared.kept_units.KeptUnits.{KeptUnits}
use Rattle.kept_units.specs.Keeping.{IsHeld, held_by, place_in, place_of, reads_in, seen_in}

-- Entries

-- what nothing touched is among stays
stays_untouched : (T : Table) (touched : Cell → Bool) (entry : Option Recorded) → reads_touched T touched entry ≡ false →
    entry ≡ unless_touched T touched entry
stays_untouched T touched None clean = refl
stays_untouched T touched (Some held) clean = sym (ap (λ (b : Bool). if b then None else Some held) clean)

gone_touched : (T : Table) (touched : Cell → Bool) (entry : Option Recorded) → reads_touched T touched entry ≡ true →
    None ≡ unless_touched T touched entry
gone_touched T touched None hit = refl
gone_touched T touched (Some held) hit = sym (ap (λ (b : Bool). if b then None else Some held) hit)

-- what is dropped, told place by place
dropped : (T : Table) (touched : Cell → Bool) (width : ℕ) (old new : KeptReads) → Marks T touched width old new → (place : ℕ) →
    reads_at new.entries place ≡ unless_touched T touched (reads_at old.entries place)
dropped T touched width old new marks place =
    by new.stale_blocks.items (reads_at old.entries place) (reads_at new.entries place) (marks.thins.entries place) (marks.clean place)
  where
    by : (blocks : List Bool) (before after : Option Recorded) → Thinned T touched width place blocks before after →
        reads_touched T touched after ≡ false → after ≡ unless_touched T touched before
    by blocks before after (entry_stays same) clean = same ∙ stays_untouched T touched before (ap (reads_touched T touched) (sym same) ∙ clean)
    by blocks before after (entry_dropped hit gone stale) clean = gone ∙ gone_touched T touched before hit

-- what wasn't dropped is kept
still_kept : (T : Table) (touched : Cell → Bool) (width place : ℕ) (blocks : List Bool) (before after : Option Recorded) →
    Thinned T touched width place blocks before after → 0 < width →
    may_be_stale blocks (place / width) ≡ false → is_none before ≡ false → is_none after ≡ false
still_kept T touched width place blocks before after (entry_stays same) wide clean had = ap is_none same ∙ had
still_kept T touched width place blocks before after (entry_dropped hit gone stale) wide clean had = absurd (true≢false (sym (stale wide) ∙ clean))

pub was_false : (a b : Bool) → (a ≡ true → b ≡ true) → b ≡ false → a ≡ false
was_false true b on clean = absurd (true≢false (sym (on refl) ∙ clean))
was_false false b on clean = refl

-- Units

pub marks_seen : (T : Table) (touched : Cell → Bool) (old new : KeptUnits) (width : ℕ) → new.lets ≡ old.lets → new.found ≡ old.found →
    Marks T touched 1 old.let_reads new.let_reads →
    Marks T touched width old.reads new.reads → MarksSeen T touched (seen_in old) (seen_in new)
marks_seen T touched old new width lets found let_marks marks = record {
  lets = lets;
  outcomes = λ p n. ap (λ (table : OutcomeTable). outcome_at table p n) found;
  reads = each;
}
  where
    each : (unit : ValidationUnit) → reads_in (held_by new) unit ≡ unless_touched T touched (reads_in (held_by old) unit)
    each (in_force slot) = dropped T touched 1 old.let_reads new.let_reads let_marks slot
    each (under p n) =
        ap (λ (table : OutcomeTable). if nat_lt p table.patterns then reads_at new.reads.entries (place_in table.patterns p n) else None) found
        ∙ by (nat_lt p old.found.patterns)
      where
        by : (b : Bool) → (if b then reads_at new.reads.entries (place_in old.found.patterns p n) else None) ≡
            unless_touched T touched (if b then reads_at old.reads.entries (place_in old.found.patterns p n) else None)
        by true = dropped T touched width old.reads new.reads marks (place_in old.found.patterns p n)
        by false = refl

-- One edit more

one_edit : (T U : Table) (last : Cell → Bool) → Edit T U last → Edits T U (λ c. false || last c)
one_edit T U last edit = (then) T U (λ c. false) last none edit

-- a node that lives only after an edit has a number past those before
new_past : EditsLeave → (T U : Table) (last : Cell → Bool) (n : ℕ) → WellFormed T → Edit T U last → is_live U n ≡ true → is_live T n ≡ false →
    length T ≤ n
new_past leave T U last n formed edit lives dead = elim (cases_lt n (length T)) [
  | inl within ↦ absurd (true≢false (sym ((leave T U (λ c. false || last c) formed (one_edit T U last edit)).agree.no_return n within lives) ∙ dead))
  | inr past ↦ past
]

-- the places stay those of the tree that an edit makes
pub held_marked : EditsLeave → (plan : Plan) (T U : Table) (touched last : Cell → Bool) (old new : KeptUnits) (width : ℕ) → WellFormed T →
    Edit T U last → new.found ≡ old.found → width ≡ old.found.patterns →
    Marks U touched 1 old.let_reads new.let_reads → Marks U touched width old.reads new.reads → IsHeld plan T old → IsHeld plan U new
held_marked leave plan T U touched last old new width formed edit found width_is let_marks marks held = record {
  patterns = ap (λ (table : OutcomeTable). table.patterns) found ∙ held.patterns;
  lets_short = omega (arith, let_marks.thins.places, held.lets_short);
  short = let rows = mul-le-mul_right (length plan.patterns) grown in omega (arith, rows, marks.thins.places, held.short);
  blocks = omega (arith, marks.thins.blocks, held.blocks, grown);
  passed = λ p n active lives clean. by_passed p n active lives clean (is_live T n) refl;
}
  where
    wide : width ≡ length plan.patterns
    wide = width_is ∙ held.patterns

    by_passed : (p n : ℕ) → p < length plan.patterns → is_live U n ≡ true → may_be_stale new.reads.stale_blocks.items n ≡ false → (b : Bool) →
        is_live T n ≡ b →
        is_none (reads_at new.reads.entries (place_of plan p n)) ≡ false
    by_passed p n active lives clean true lived =
        let row : place_of plan p n / width ≡ n = ap (λ (w : ℕ). place_of plan p n / w) wide ∙ div-mul-add n (length plan.patterns) p active in
        still_kept U touched width (place_of plan p n) new.reads.stale_blocks.items (reads_at old.reads.entries (place_of plan p n))
        (reads_at new.reads.entries (place_of plan p n))
        (marks.thins.entries (place_of plan p n)) (omega (arith, wide, active)) (ap (may_be_stale new.reads.stale_blocks.items) row ∙ clean)
        (held.passed p n active lived (was_false (may_be_stale old.reads.stale_blocks.items n) (may_be_stale new.reads.stale_blocks.items n)
        (marks.thins.still n) clean))
    by_passed p n active lives clean false dead =
        let past = new_past leave T U last n formed edit lives dead in
        let behind : length old.reads.stale_blocks.items ≤ n / 64 = omega (arith, past, held.blocks) in
        absurd (true≢false (sym (marks.thins.still n (get_or_past old.reads.stale_blocks.items (n / 64) true behind)) ∙ clean))

    grown : length T ≤ length U
    grown = (leave T U (λ c. false || last c) formed (one_edit T U last edit)).agree.numbers
