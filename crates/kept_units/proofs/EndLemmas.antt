-- What is kept once the lets are refreshed, and those that read a let with another outcome are forgotten.
use Rattle.std.proofs.Common.{◌≡◌, ◌∙◌, inl, inr, ◌⊎◌, ℕ, ◌<◌, ◌≤◌, Bool, true, false, not, List, length, Option, None, Some, is_none, slice_get, refl, sym, ap, subst, arith}
use Rattle.std.proofs.lemmas.Bool.{cases_lt, true≢false}
use Rattle.std.proofs.lemmas.List.{get_or_past}
use Rattle.std.proofs.lemmas.Nat.{div-mul-add}
use Rattle.std.specs.FinSet.{contains}
use Rattle.std.specs.List.{filter}
use Rattle.doc_tree.specs.Table.{Table}
use Rattle.xp_outcome.specs.Recorded.{Recorded}
use Rattle.xp_outcome.specs.Slots.{in_slot}
use Rattle.xp_meaning.specs.Evaluation.{Lets}
use Rattle.sch_compiled.specs.declared.plan.Plan.{Plan}
use Rattle.sch_compiled.specs.Findings.{OutcomeTable, outcome_at}
use Rattle.sch_units.specs.Laws.{LetsStandInOrder}
use Rattle.sch_units.specs.Units.{lets_of, unit_pair}
use Rattle.sch_units.specs.Validity.{outcome_of}
use Rattle.edit_costs.specs.SameOutcome.{same_outcome}
use Rattle.edit_costs.specs.Units.{ValidationUnit, in_force, under, let_units}
use Rattle.edit_costs.proofs.LetLemmas.{lets_whole}
use Rattle.edit_costs.proofs.RaisedLemmas.{spent_raised}
use Rattle.cover_laws.specs.Covering.{HeldAlike}
use Rattle.kept_state.specs.Kept.{Gave, IsUnit, Keeps, Kept, LetsLive, LetsPass, Stands, let_gives, noted, reads_under}
use Rattle.kept_state.specs.Refreshing.{Reached, RefreshesGoOn}
use Rattle.kept_state.specs.Running.{GivesHere, GoesOn, IsDone, is_run, is_stale}
use Rattle.kept_state.specs.Steps.{SameGiven, StaysAs, differs, unless_changed}
use Rattle.kept_reads.specs.declared.kept_reads.KeptReads.{KeptReads}
use Rattle.kept_reads.specs.Forgetting.{ForgetsReaders, flag_at}
use Rattle.kept_reads.specs.Reads.{may_be_stale, reads_at}
use Rattle.kept_units.specs.declared.kept_units.KeptUnits.{KeptUnits}
use Rattle.kept_units.specs.Keeping.{IsHeld, held_by, place_of, reads_in, seen_in}
use Rattle.kept_units.specs.inner.Forgetting.{ForgetsAll, ForgetsPairs}
use Rattle.kept_units.specs.inner.Refreshing.{LetsCut, LetsDone, LetsGo, LetsRefreshed, LetsSo, masked, masked_reads}
use Rattle.kept_units.proofs.LetLemmas.{mask_below, mask_past}
use Rattle.kept_units.proofs.MarkingLemmas.{was_false}
use Rattle.kept_units.proofs.RaisedLemmas.{spent_none}
use Rattle.kept_units.proofs.ReadLemmas.{changed_by, same_changed, stays_kept, was_kept}
use Rattle.kept_units.proofs.SeenLemmas.{same_kept, seen_pair, seen_past}

-- Less that is kept

module _ (plan : Plan) (T : Table) (old mid new : Kept) (lets : new.lets ≡ mid.lets) (outcomes : (p n : ℕ) → new.outcomes p n ≡ mid.outcomes p n)
    (fewer : (unit : ValidationUnit) (held : Recorded) → new.reads unit ≡ Some held → mid.reads unit ≡ Some held) where
  gave_on : (unit : ValidationUnit) → Gave plan T mid unit → Gave plan T new unit
  gave_on (in_force slot) gave = subst (λ (L : Lets). in_slot L slot ≡ let_gives T L (slice_get plan.lets slot)) (sym lets) gave
  gave_on (under p n) gave = outcomes p n ∙ gave ∙ ap (λ (L : Lets). Some (outcome_of (unit_pair plan T L p n).answer)) (sym lets)

  -- the state is kept
  keeps_fewer : Keeps plan T mid → Keeps plan T new
  keeps_fewer keeps = record {
    few = omega (arith, ap length lets, keeps.few);
    made = λ slot. subst (λ (L : Lets). LetsPass (λ n. n < length T) L slot) (sym lets) (keeps.made slot);
    new = λ p n past. none_new p n past (new.reads (under p n)) refl;
    before = λ slot other held is read. keeps.before slot other held (fewer (in_force slot) held is) read;
    stands = λ unit held exists typed is live.
        let s : Stands plan T mid unit held =
        keeps.stands unit held exists typed (fewer unit held is) (subst (λ (L : Lets). LetsLive T L held.lets) lets live) in
        record {
          gave = gave_on unit s.gave;
          read = subst (λ (L : Lets). HeldAlike T held (noted (reads_under plan T L unit))) (sym lets) s.read;
        };
  }
    where
      none_new : (p n : ℕ) → length T ≤ n → (entry : Option Recorded) → new.reads (under p n) ≡ entry → new.reads (under p n) ≡ None
      none_new p n past None is = is
      none_new p n past (Some held) is = absurd (true≢false (ap is_none (sym (keeps.new p n past) ∙ fewer (under p n) held is)))

  same_given : (unit : ValidationUnit) → SameGiven mid new unit
  same_given (in_force slot) = ap (λ (L : Lets). in_slot L slot) lets
  same_given (under p n) = outcomes p n

  given_then : (unit : ValidationUnit) → SameGiven old mid unit → SameGiven old new unit
  given_then (in_force slot) first = ap (λ (L : Lets). in_slot L slot) lets ∙ first
  given_then (under p n) first = outcomes p n ∙ first

  gives_on : (unit : ValidationUnit) → GivesHere plan T mid unit → GivesHere plan T new unit
  gives_on (in_force slot) gives = ap (λ (L : Lets). in_slot L slot) lets ∙ gives
  gives_on (under p n) gives = outcomes p n ∙ gives

  -- where a refresh stopped, less may be kept of the units that were to be run
  pub goes_fewer : ((unit : ValidationUnit) → IsUnit plan T unit → is_run plan T old unit ≡ false → new.reads unit ≡ mid.reads unit) →
      GoesOn plan T old mid → GoesOn plan T old new
  goes_fewer clean goes = record {
    keeps = keeps_fewer goes.keeps;
    some = λ unit exists runs. by unit (goes.some unit exists runs) (new.reads unit) refl;
    others = λ unit exists none.
        let stays = goes.others unit exists none in
        record { given = given_then unit stays.given; reads = clean unit exists none ∙ stays.reads };
  }
    where
      by : (unit : ValidationUnit) → IsDone plan T mid unit ⊎ ((is_stale mid unit ≡ true) ⊎ StaysAs old mid unit) → (entry : Option Recorded) →
          new.reads unit ≡ entry →
          IsDone plan T new unit ⊎ ((is_stale new unit ≡ true) ⊎ StaysAs old new unit)
      by unit was None is = inr (inl (ap is_none is))
      by unit (inl done) (Some held) is = inl (record {
        held = done.held;
        is = is ∙ sym (fewer unit held is) ∙ done.is;
        right = record { gives = gives_on unit done.right.gives; read = done.right.read };
      })
      by unit (inr (inl stale)) (Some held) is = absurd (true≢false (sym stale ∙ ap is_none (fewer unit held is)))
      by unit (inr (inr stays)) (Some held) is =
          inr (inr (record { given = given_then unit stays.given; reads = is ∙ sym (fewer unit held is) ∙ stays.reads }))

-- Nodes under patterns that are forgotten

-- what becomes of the nodes under patterns where lets have another outcome
record PairsForgotten (flags : List Bool) (plan : Plan) (old new : KeptUnits) : Type 0 where
  found : new.found ≡ old.found
  reads : 0 < length plan.patterns → ForgetsReaders flags (length plan.patterns) old.reads new.reads
  none : length plan.patterns ≡ 0 → new.reads ≡ old.reads

pair_forgotten : (flags : List Bool) (plan : Plan) (old new : KeptUnits) (p n : ℕ) → old.found.patterns ≡ length plan.patterns →
    PairsForgotten flags plan old new →
    reads_in (held_by new) (under p n) ≡ unless_changed (flag_at flags) (reads_in (held_by old) (under p n))
pair_forgotten flags plan old new p n patterns forgets = by (cases_lt p (length plan.patterns))
  where
    new_patterns : new.found.patterns ≡ length plan.patterns
    new_patterns = ap (λ (table : OutcomeTable). table.patterns) forgets.found ∙ patterns

    by : (p < length plan.patterns) ⊎ (length plan.patterns ≤ p) →
        reads_in (held_by new) (under p n) ≡ unless_changed (flag_at flags) (reads_in (held_by old) (under p n))
    by (inl low) =
        seen_pair plan p n new new_patterns low
        ∙ (forgets.reads (omega (arith, low))).entries (place_of plan p n)
        ∙ changed_by flags (reads_at old.reads.entries (place_of plan p n))
        ∙ ap (unless_changed (flag_at flags)) (sym (seen_pair plan p n old patterns low))
    by (inr past) = seen_past plan p n new new_patterns past ∙ ap (unless_changed (flag_at flags)) (sym (seen_past plan p n old patterns past))

-- the places stay those of the tree
held_forgotten : (flags : List Bool) (plan : Plan) (T : Table) (old new : KeptUnits) → PairsForgotten flags plan old new →
    length new.let_reads.entries ≡ length old.let_reads.entries →
    IsHeld plan T old → IsHeld plan T new
held_forgotten flags plan T old new forgets lets held = by (cases_lt 0 (length plan.patterns))
  where
    by : (0 < length plan.patterns) ⊎ (length plan.patterns ≤ 0) → IsHeld plan T new
    by (inl some) =
        let reads = forgets.reads some in
        record {
          patterns = ap (λ (table : OutcomeTable). table.patterns) forgets.found ∙ held.patterns;
          lets_short = omega (arith, lets, held.lets_short);
          short = omega (arith, reads.places, held.short);
          blocks = omega (arith, reads.blocks, held.blocks);
          passed = λ p n low live clean.
              reads.clean (place_of plan p n) (ap (may_be_stale new.reads.stale_blocks.items) (div-mul-add n (length plan.patterns) p low) ∙ clean)
              (held.passed p n low live (was_false (may_be_stale old.reads.stale_blocks.items n) (may_be_stale new.reads.stale_blocks.items n)
              (reads.still n) clean));
        }
    by (inr no_pattern) =
        let same = forgets.none (omega (arith, no_pattern)) in
        record {
          patterns = ap (λ (table : OutcomeTable). table.patterns) forgets.found ∙ held.patterns;
          lets_short = omega (arith, lets, held.lets_short);
          short = omega (arith, ap (λ (k : KeptReads). length k.entries) same, held.short);
          blocks = omega (arith, ap (λ (k : KeptReads). length k.stale_blocks.items) same, held.blocks);
          passed = λ p n low live clean. absurd (omega (arith, low, no_pattern));
        }

-- while the lets are refreshed the places stay
held_so : (plan : Plan) (T : Table) (old mid : KeptUnits) (flags : List Bool) → LetsSo plan old mid flags → IsHeld plan T old → IsHeld plan T mid
held_so plan T old mid flags so held = record {
  patterns = ap (λ (table : OutcomeTable). table.patterns) so.found ∙ held.patterns;
  lets_short = omega (arith, so.places, held.lets_short);
  short = omega (arith, ap (λ (k : KeptReads). length k.entries) so.reads, held.short);
  blocks = omega (arith, ap (λ (k : KeptReads). length k.stale_blocks.items) so.reads, held.blocks);
  passed = λ p n low live clean.
      ap (λ (k : KeptReads). is_none (reads_at k.entries (place_of plan p n))) so.reads
      ∙ held.passed p n low live (ap (λ (k : KeptReads). may_be_stale k.stale_blocks.items n) (sym so.reads) ∙ clean);
}

-- Where all lets were refreshed

module _ (order : LetsStandInOrder) (plan : Plan) (T : Table) (go : RefreshesGoOn plan T) (old mid new : KeptUnits) (flags : List Bool)
    (before after : ℕ) (held : IsHeld plan T old)
    (refreshed : LetsRefreshed plan T (length plan.lets) old mid flags before after) (forgets : ForgetsPairs flags plan mid new) where
  pairs : PairsForgotten flags plan mid new
  pairs = record { found = forgets.found; reads = forgets.reads; none = forgets.none }

  held_mid : IsHeld plan T mid
  held_mid = held_so plan T old mid flags refreshed.so held

  -- what is kept is what the mask shows
  seen_new : seen_in new ≡ masked (length plan.lets) flags mid
  seen_new =
      same_kept (masked (length plan.lets) flags mid) (seen_in new) forgets.lets
      (λ p n. ap (λ (table : OutcomeTable). outcome_at table p n) forgets.found) each
    where
      each : (unit : ValidationUnit) → reads_in (held_by new) unit ≡ masked_reads (length plan.lets) flags mid unit
      each (under p n) = pair_forgotten flags plan mid new p n held_mid.patterns pairs
      each (in_force slot) = ap (λ (k : KeptReads). reads_at k.entries slot) forgets.let_reads ∙ by (cases_lt slot (length plan.lets))
        where
          by : (slot < length plan.lets) ⊎ (length plan.lets ≤ slot) →
              reads_at mid.let_reads.entries slot ≡ masked_reads (length plan.lets) flags mid (in_force slot)
          by (inl below) = sym (mask_below (length plan.lets) slot flags mid below)
          by (inr past) =
              let none : reads_at mid.let_reads.entries slot ≡ None =
              get_or_past mid.let_reads.entries slot None (omega (arith, past, held_mid.lets_short)) in
              none ∙ ap (unless_changed (flag_at flags)) (sym none) ∙ sym (mask_past (length plan.lets) slot flags mid past)

  reached_all : Reached plan T (under 0 0) (seen_in old) (seen_in new)
  reached_all = subst (λ k. Reached plan T (under 0 0) (seen_in old) k) (sym seen_new)
      (go.lets.over (length plan.lets) (seen_in old) (masked (length plan.lets) flags mid) refreshed.reached (omega arith))

  pub lets_go_all : LetsGo plan T old new before after
  lets_go_all = record {
    held = held_forgotten flags plan T mid new pairs (ap (λ (k : KeptReads). length k.entries) forgets.let_reads) held_mid;
    goes_on = go.stops (under 0 0) (seen_in old) (seen_in new) reached_all;
    spent = spent_raised plan T (filter (is_run plan T (seen_in old)) (let_units plan)) before after refreshed.raised;
  }

  pub lets_done : LetsDone plan T old new before after
  lets_done = record {
    lets = lets_whole order plan T new.lets reached_all.keeps.few (λ slot below. (reached_all.done (in_force slot) below tt).right.gives);
    reached = reached_all;
    places = by (cases_lt 0 (length plan.patterns)) ∙ ap (λ (k : KeptReads). length k.entries) refreshed.so.reads;
    raised = refreshed.raised;
  }
    where
      by : (0 < length plan.patterns) ⊎ (length plan.patterns ≤ 0) → length new.reads.entries ≡ length mid.reads.entries
      by (inl some) = (forgets.reads some).places
      by (inr no_pattern) = ap (λ (k : KeptReads). length k.entries) (forgets.none (omega (arith, no_pattern)))

-- Where the refresh of lets was cut short

module _ (plan : Plan) (T : Table) (old mid new : KeptUnits) (flags : List Bool) (before after : ℕ) (held : IsHeld plan T old)
    (cut : LetsCut plan T old mid flags before after) (forgets : ForgetsAll flags plan mid new) where
  pairs_cut : PairsForgotten flags plan mid new
  pairs_cut = record { found = forgets.found; reads = forgets.reads; none = forgets.none }

  held_cut : IsHeld plan T mid
  held_cut = held_so plan T old mid flags cut.so held

  let_now : (slot : ℕ) → reads_at new.let_reads.entries slot ≡ unless_changed (flag_at flags) (reads_at mid.let_reads.entries slot)
  let_now slot = forgets.let_reads.entries slot ∙ changed_by flags (reads_at mid.let_reads.entries slot)

  fewer_cut : (unit : ValidationUnit) (found : Recorded) → reads_in (held_by new) unit ≡ Some found → masked_reads cut.l flags mid unit ≡ Some found
  fewer_cut (under p n) found is = sym (pair_forgotten flags plan mid new p n held_cut.patterns pairs_cut) ∙ is
  fewer_cut (in_force slot) found is = elim (cases_lt slot cut.l) [
    | inl below ↦ mask_below cut.l slot flags mid below ∙ was_kept (flag_at flags) (reads_at mid.let_reads.entries slot) found
        (sym (let_now slot) ∙ is)
    | inr past ↦ mask_past cut.l slot flags mid past ∙ sym (let_now slot) ∙ is
  ]

  -- a let before the end that wasn't to be run reads none that has another outcome
  stays_cut : (slot : ℕ) → slot < length plan.lets → slot < cut.l → is_run plan T (seen_in old) (in_force slot) ≡ false →
      unless_changed (flag_at flags) (reads_at mid.let_reads.entries slot) ≡ reads_at mid.let_reads.entries slot
  stays_cut slot exists below none =
      same_changed (flag_at flags) (differs old.lets (lets_of plan T)) (reads_at mid.let_reads.entries slot) alike
      ∙ stays_kept (differs old.lets (lets_of plan T)) (reads_at mid.let_reads.entries slot)
      (ap (λ (entry : Option Recorded). is_none (unless_changed (differs old.lets (lets_of plan T)) entry)) was ∙ none)
    where
      was : reads_at mid.let_reads.entries slot ≡ reads_at old.let_reads.entries slot
      was = sym (mask_below cut.l slot flags mid below) ∙ (cut.goes_on.others (in_force slot) exists none).reads

      alike : (found : Recorded) (other : ℕ) → reads_at mid.let_reads.entries slot ≡ Some found → contains found.lets other ≡ true →
          flag_at flags other ≡ differs old.lets (lets_of plan T) other
      alike found other is read =
          let less : other < slot = cut.goes_on.keeps.before slot other found (mask_below cut.l slot flags mid below ∙ is) read in
          cut.so.flagged other ∙ ap (λ o. not (same_outcome (in_slot old.lets other) o)) (cut.gives slot other less below)

  clean_cut : (unit : ValidationUnit) → IsUnit plan T unit → is_run plan T (seen_in old) unit ≡ false →
      reads_in (held_by new) unit ≡ masked_reads cut.l flags mid unit
  clean_cut (under p n) exists none = pair_forgotten flags plan mid new p n held_cut.patterns pairs_cut
  clean_cut (in_force slot) exists none = elim (cases_lt slot cut.l) [
    | inl below ↦ let_now slot ∙ stays_cut slot exists below none ∙ sym (mask_below cut.l slot flags mid below)
    | inr past ↦ let_now slot ∙ sym (mask_past cut.l slot flags mid past)
  ]

  pub lets_go_cut : LetsGo plan T old new before after
  lets_go_cut = record {
    held = held_forgotten flags plan T mid new pairs_cut forgets.let_reads.places held_cut;
    goes_on =
        goes_fewer plan T (seen_in old) (masked cut.l flags mid) (seen_in new) forgets.lets
        (λ p n. ap (λ (table : OutcomeTable). outcome_at table p n) forgets.found) fewer_cut
        clean_cut cut.goes_on;
    spent = cut.spent;
  }

-- where nothing was run
pub lets_go_nowhere : (plan : Plan) (T : Table) (go : RefreshesGoOn plan T) (kept : KeptUnits) (count : ℕ) → IsHeld plan T kept →
    Keeps plan T (seen_in kept) → LetsGo plan T kept kept count count
lets_go_nowhere plan T go kept count held keeps = record {
  held = held;
  goes_on = go.stops (in_force 0) (seen_in kept) (seen_in kept) (go.lets.begins (seen_in kept) keeps);
  spent = spent_none plan T (filter (is_run plan T (seen_in kept)) (let_units plan)) count;
}
