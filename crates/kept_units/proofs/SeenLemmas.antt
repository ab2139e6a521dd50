-- What is kept, seen without places.
use Rattle.std.proofs.Common.{◌≡◌, ◌≢◌, ◌∙◌, inl, inr, ◌⊎◌, ℕ, ◌*◌, ◌<◌, ◌≤◌, nat_lt, Bool, length, Option, None, if◌then◌else◌, ap, arith}
use Rattle.std.proofs.lemmas.Bool.{lt-ltb, le-ltb}
use Rattle.std.proofs.lemmas.Nat.{mul-add-lt}
use Rattle.std.proofs.Math.Nat.{mul_comm}
use Rattle.xp_outcome.specs.Recorded.{Recorded}
use Rattle.sch_compiled.specs.declared.plan.Plan.{Plan}
use Rattle.sch_compiled.specs.Findings.{OutcomeTable, outcome_at}
use Rattle.sch_compiled.proofs.FindingsLemmas.{same_place}
use Rattle.edit_costs.specs.Units.{ValidationUnit, in_force, under}
use Rattle.kept_state.specs.Kept.{Kept}
use Rattle.kept_reads.specs.Reads.{reads_at}
use Rattle.kept_units.specs.declared.kept_units.KeptUnits.{KeptUnits}
use Rattle.kept_units.specs.Keeping.{held_by, place_in, place_of, reads_in, seen_in}

-- what is kept is the same where its parts are
pub same_kept : (old new : Kept) → new.lets ≡ old.lets → ((p n : ℕ) → new.outcomes p n ≡ old.outcomes p n) →
    ((unit : ValidationUnit) → new.reads unit ≡ old.reads unit) → new ≡ old
same_kept old new lets outcomes reads = λ i. record { lets = lets i; outcomes = λ p n. outcomes p n i; reads = λ unit. reads unit i }

-- what is seen of a node under a pattern stands at its place
pub seen_pair : (plan : Plan) (p n : ℕ) (kept : KeptUnits) → kept.found.patterns ≡ length plan.patterns → p < length plan.patterns →
    reads_in (held_by kept) (under p n) ≡ reads_at kept.reads.entries (place_of plan p n)
seen_pair plan p n kept patterns low =
    ap (λ (count : ℕ). if nat_lt p count then reads_at kept.reads.entries (place_in count p n) else None) patterns
    ∙ ap (λ (b : Bool). if b then reads_at kept.reads.entries (place_of plan p n) else None) (lt-ltb p (length plan.patterns) low)

-- past the last pattern nothing is
pub seen_past : (plan : Plan) (p n : ℕ) (kept : KeptUnits) → kept.found.patterns ≡ length plan.patterns → length plan.patterns ≤ p →
    reads_in (held_by kept) (under p n) ≡ None
seen_past plan p n kept patterns past =
    ap (λ (count : ℕ). if nat_lt p count then reads_at kept.reads.entries (place_in count p n) else None) patterns
    ∙ ap (λ (b : Bool). if b then reads_at kept.reads.entries (place_of plan p n) else None) (le-ltb p (length plan.patterns) past)

-- another node or pattern has another place
pub other_place : (plan : Plan) (p n q m : ℕ) → p < length plan.patterns → q < length plan.patterns → (q ≢ p) ⊎ (m ≢ n) →
    place_of plan q m ≢ place_of plan p n
other_place plan p n q m low below (inl differ) same = differ (same_place (length plan.patterns) q p m n below low same).1
other_place plan p n q m low below (inr differ) same = differ (same_place (length plan.patterns) q p m n below low same).0

-- a node that was made has a place
pub place_within : (plan : Plan) (p n nodes places : ℕ) → p < length plan.patterns → n < nodes → nodes * length plan.patterns ≤ places →
    place_of plan p n < places
place_within plan p n nodes places low made room =
    omega (arith, mul-add-lt n (length plan.patterns) p nodes made low, mul_comm nodes (length plan.patterns), room)

-- what is kept of lets and nodes at the same places is seen as the same
pub same_seen : (old new : KeptUnits) → new.lets ≡ old.lets → new.found ≡ old.found →
    ((slot : ℕ) → reads_at new.let_reads.entries slot ≡ reads_at old.let_reads.entries slot) →
    ((place : ℕ) → reads_at new.reads.entries place ≡ reads_at old.reads.entries place) → seen_in new ≡ seen_in old
same_seen old new lets found let_reads reads =
    same_kept (seen_in old) (seen_in new) lets (λ p n. ap (λ (table : OutcomeTable). outcome_at table p n) found) each
  where
    each : (unit : ValidationUnit) → reads_in (held_by new) unit ≡ reads_in (held_by old) unit
    each (in_force slot) = let_reads slot
    each (under p n) =
        ap (λ (table : OutcomeTable). if nat_lt p table.patterns then reads_at new.reads.entries (place_in table.patterns p n) else None) found
        ∙ ap (λ (entry : Option Recorded). if nat_lt p old.found.patterns then entry else None) (reads (place_in old.found.patterns p n))
