-- The lets in force are refreshed one after another.
use Rattle.std.proofs.Common.{◌≡◌, ◌≢◌, ◌∙◌, inl, inr, ◌⊎◌, ℕ, ◌+◌, ◌-◌, ◌<◌, ◌≤◌, nat_lt, Bool, true, false, not, ◌||◌, List, [], ◌∷◌, ◌++◌, length, map, take, Option, None, Some, IfSome, is_none, slice_get, if◌then◌else◌, refl, sym, ap, subst, arith}
use Rattle.std.proofs.lemmas.Bool.{cases_eq, cases_lt, le-ltb, lt-ltb, true≢false}
use Rattle.std.proofs.lemmas.List.{get_or-set_other, get_or-set_same, get_or-take, length-set, map-append}
use Rattle.std.specs.List.{filter, range_with_len}
use Rattle.doc_tree.specs.Table.{Table}
use Rattle.xp_outcome.specs.Evaluation.{Evaluation, Read}
use Rattle.xp_outcome.specs.Recorded.{Recorded}
use Rattle.xp_outcome.specs.Slots.{in_slot}
use Rattle.xp_outcome.proofs.SlotLemmas.{others_stay, put_there}
use Rattle.xp_values.specs.declared.values.EvalFault.{EvalFault}
use Rattle.xp_values.specs.declared.values.Value.{Value}
use Rattle.xp_meaning.specs.Evaluation.{Lets}
use Rattle.sch_compiled.specs.declared.parts.LetInForce.{LetInForce}
use Rattle.sch_compiled.specs.declared.plan.Plan.{Plan}
use Rattle.sch_compiled.specs.Findings.{OutcomeTable, outcome_at}
use Rattle.sch_compiled.specs.Soundness.{IsSound}
use Rattle.sch_units.specs.Laws.{LetsStandInOrder}
use Rattle.sch_units.specs.Units.{lets_of, unit_let}
use Rattle.edit_costs.specs.Costs.{Raised}
use Rattle.edit_costs.specs.Evaluating.{SpentOn, lets_below}
use Rattle.edit_costs.specs.Laws.{LetsNeedThoseBefore, SameOutcomesAreEqual}
use Rattle.edit_costs.specs.SameOutcome.{same_outcome}
use Rattle.edit_costs.specs.Units.{ValidationUnit, in_force, under, let_reads, let_units, let_work, work_of}
use Rattle.edit_costs.proofs.LetLemmas.{let_there}
use Rattle.edit_costs.proofs.RaisedLemmas.{raised_let, raised_none, spent_raised}
use Rattle.edit_costs.proofs.UnitLemmas.{let_more}
use Rattle.cover_laws.specs.Covering.{HeldAlike}
use Rattle.kept_state.specs.Kept.{Keeps, let_gives, noted}
use Rattle.kept_state.specs.Refreshing.{Reached, RefreshesGoOn}
use Rattle.kept_state.specs.Running.{GoesOn, is_run, is_stale}
use Rattle.kept_state.specs.Steps.{differs, unless_changed}
use Rattle.kept_state.specs.Steps.{RunsLet as KeepsRun}
use Rattle.kept_reads.specs.declared.kept_reads.KeptReads.{KeptReads}
use Rattle.kept_reads.specs.Forgetting.{flag_at}
use Rattle.kept_reads.specs.Reads.{reads_at}
use Rattle.kept_units.specs.declared.kept_units.KeptUnits.{KeptUnits}
use Rattle.kept_units.specs.Keeping.{held_by, place_in, reads_in, seen_in}
use Rattle.kept_units.specs.inner.Refreshing.{CutsLet, LetCut, let_unset, let_unread, LetStops, LetsCut, LetsRefreshed, LetsSo, RefreshesLet, let_ran, let_left, RunsLet, SetsLet, let_runs, masked, masked_reads}
use Rattle.kept_units.proofs.ListLemmas.{range_split, within_slots}
use Rattle.kept_units.proofs.RaisedLemmas.{raised_in, raised_out, spent_in, spent_one}
use Rattle.kept_units.proofs.ReadLemmas.{changed_by, none_changed, stays_kept, then_changed}
use Rattle.kept_units.proofs.SeenLemmas.{same_kept}

-- Masks

pub mask_below : (l slot : ℕ) (flags : List Bool) (kept : KeptUnits) → slot < l →
    masked_reads l flags kept (in_force slot) ≡ reads_at kept.let_reads.entries slot
mask_below l slot flags kept below =
    ap (λ (b : Bool). if b then reads_at kept.let_reads.entries slot else unless_changed (flag_at flags) (reads_at kept.let_reads.entries slot))
    (lt-ltb slot l below)

pub mask_past : (l slot : ℕ) (flags : List Bool) (kept : KeptUnits) → l ≤ slot →
    masked_reads l flags kept (in_force slot) ≡ unless_changed (flag_at flags) (reads_at kept.let_reads.entries slot)
mask_past l slot flags kept past =
    ap (λ (b : Bool). if b then reads_at kept.let_reads.entries slot else unless_changed (flag_at flags) (reads_at kept.let_reads.entries slot))
    (le-ltb slot l past)

-- a let is stale under the mask where it is to be evaluated
stale_told : (l : ℕ) (flags : List Bool) (kept : KeptUnits) → is_stale (masked l flags kept) (in_force l) ≡ let_runs l flags kept
stale_told l flags kept = ap is_none (mask_past l l flags kept (omega arith) ∙ sym (changed_by flags (reads_at kept.let_reads.entries l)))

-- where no flag is set, the mask hides nothing
pub unmasked : (flags : List Bool) (kept : KeptUnits) → ((slot : ℕ) → flag_at flags slot ≡ false) → masked 0 flags kept ≡ seen_in kept
unmasked flags kept unset = same_kept (seen_in kept) (masked 0 flags kept) refl (λ p n. refl) each
  where
    all_stay : (entry : Option Recorded) → unless_changed (flag_at flags) entry ≡ entry
    all_stay entry = none_changed (flag_at flags) entry (λ held slot is read. unset slot)

    each : (unit : ValidationUnit) → masked_reads 0 flags kept unit ≡ reads_in (held_by kept) unit
    each (in_force slot) = mask_past 0 slot flags kept (omega arith) ∙ all_stay (reads_at kept.let_reads.entries slot)
    each (under p n) = all_stay (reads_in (held_by kept) (under p n))

-- one let that isn't to be evaluated is passed over
mask_passed : (l : ℕ) (flags : List Bool) (kept : KeptUnits) → let_runs l flags kept ≡ false → masked (l + 1) flags kept ≡ masked l flags kept
mask_passed l flags kept left = same_kept (masked l flags kept) (masked (l + 1) flags kept) refl (λ p n. refl) each
  where
    own : unless_changed (flag_at flags) (reads_at kept.let_reads.entries l) ≡ reads_at kept.let_reads.entries l
    own =
        stays_kept (flag_at flags) (reads_at kept.let_reads.entries l) (ap is_none (sym (changed_by flags (reads_at kept.let_reads.entries l)))
        ∙ left)

    each : (unit : ValidationUnit) → masked_reads (l + 1) flags kept unit ≡ masked_reads l flags kept unit
    each (under p n) = refl
    each (in_force slot) = by (cases_eq slot l) (cases_lt slot l)
      where
        by : (slot ≡ l) ⊎ (slot ≡ l → ⊥) → (slot < l) ⊎ (l ≤ slot) →
            masked_reads (l + 1) flags kept (in_force slot) ≡ masked_reads l flags kept (in_force slot)
        by (inl same) h = subst (λ (k : ℕ). masked_reads (l + 1) flags kept (in_force k) ≡ masked_reads l flags kept (in_force k)) (sym same)
            (mask_below (l + 1) l flags kept (omega arith) ∙ sym own ∙ sym (mask_past l l flags kept (omega arith)))
        by (inr differ) (inl below) = mask_below (l + 1) slot flags kept (omega (arith, below)) ∙ sym (mask_below l slot flags kept below)
        by (inr differ) (inr past) = mask_past (l + 1) slot flags kept (omega (arith, past, differ)) ∙ sym (mask_past l slot flags kept past)

module _ (need : LetsNeedThoseBefore) (equal : SameOutcomesAreEqual) (order : LetsStandInOrder) (plan : Plan) (T : Table) (sound : IsSound plan)
    (go : RefreshesGoOn plan T) where
  -- the same outcomes don't differ
  same_outcomes : (L M : Lets) (slot : ℕ) → in_slot L slot ≡ in_slot M slot → differs L M slot ≡ false
  same_outcomes L M slot same = ap not ((equal (in_slot L slot) (in_slot M slot)).1 same)

  -- the lets before that to which a refresh has come are those of the tree
  pub earlier : (l : ℕ) (old mid : KeptUnits) (flags : List Bool) → l ≤ length plan.lets →
      Reached plan T (in_force l) (seen_in old) (masked l flags mid) →
      (slot : ℕ) → slot < l → in_slot mid.lets slot ≡ in_slot (lets_of plan T) slot
  earlier l old mid flags within reached slot below =
      let exists : slot < length plan.lets = omega (arith, below, within) in
      (reached.done (in_force slot) exists below).right.gives

  let_told : (l : ℕ) (old mid : KeptUnits) (flags : List Bool) → Reached plan T (in_force l) (seen_in old) (masked l flags mid) →
      is_run plan T (seen_in old) (in_force l) ≡ let_runs l flags mid
  let_told l old mid flags reached = go.lets.tells l (seen_in old) (masked l flags mid) reached ∙ stale_told l flags mid

  -- a let under those before it gives and costs what it does under the lets of the tree
  record LetHere (L : Lets) (l : ℕ) (t : LetInForce) : Type 0 where
    is : in_slot (lets_of plan T) l ≡ Some (unit_let T L t.expr).answer
    work : work_of plan T (in_force l) ≡ (unit_let T L t.expr).work

  let_here : (L : Lets) (l : ℕ) (t : LetInForce) → slice_get plan.lets l ≡ Some t →
      ((slot : ℕ) → slot < l → in_slot L slot ≡ in_slot (lets_of plan T) slot) → LetHere L l t
  let_here L l t there before = record {
    is = order.under plan T l t there ∙ ap (λ (e : Evaluation EvalFault Value). Some e.answer) same;
    work = ap (let_work T (take l (lets_of plan T))) there ∙ ap (λ (e : Evaluation EvalFault Value). e.work) same;
  }
    where
      same : unit_let T (take l (lets_of plan T)) t.expr ≡ unit_let T L t.expr
      same = sym (need.same plan T L (take l (lets_of plan T)) l t sound there
          (λ slot below. before slot below ∙ sym (get_or-take l (lets_of plan T) slot None below)))

  -- A let that is set

  module _ (l : ℕ) (t : LetInForce) (there : slice_get plan.lets l ≡ Some t) (entry : Option Recorded) (old mid new : KeptUnits)
      (flags next : List Bool)
      (within : l < length plan.lets) (place : l < length mid.let_reads.entries) (so : LetsSo plan old mid flags)
      (reached : Reached plan T (in_force l) (seen_in old) (masked l flags mid))
      (entry_is : (held : Recorded) → entry ≡ Some held → HeldAlike T held (noted (unit_let T mid.lets t.expr).reads))
      (sets : SetsLet (unit_let T mid.lets t.expr).answer l entry mid new flags next) where
    set_there : in_slot new.lets l ≡ Some (unit_let T mid.lets t.expr).answer
    set_there = ap (λ (L : Lets). in_slot L l) sets.lets ∙ put_there mid.lets l (unit_let T mid.lets t.expr).answer

    pub set_reads : reads_at new.let_reads.entries l ≡ entry
    set_reads =
        ap (λ (entries : List (Option Recorded)). reads_at entries l) sets.let_reads ∙ get_or-set_same mid.let_reads.entries l entry None place

    pub other_outcome : (slot : ℕ) → slot ≢ l → in_slot new.lets slot ≡ in_slot mid.lets slot
    other_outcome slot differ = ap (λ (L : Lets). in_slot L slot) sets.lets ∙ others_stay mid.lets l slot (unit_let T mid.lets t.expr).answer differ

    other_reads : (slot : ℕ) → slot ≢ l → reads_at new.let_reads.entries slot ≡ reads_at mid.let_reads.entries slot
    other_reads slot differ =
        ap (λ (entries : List (Option Recorded)). reads_at entries slot) sets.let_reads ∙ get_or-set_other mid.let_reads.entries l slot entry None
        differ

    -- its outcome is as it was before
    given : in_slot mid.lets l ≡ in_slot old.lets l
    given = reached.given (in_force l) (λ (less : l < l). omega (arith, less))

    flag_there : flag_at next l ≡ differs mid.lets new.lets l
    flag_there =
        ap (λ (xs : List Bool). flag_at xs l) sets.flagged
        ∙ get_or-set_same flags l (not (same_outcome (in_slot mid.lets l) (Some (unit_let T mid.lets t.expr).answer))) false
        (omega (arith, within, so.flag_count))
        ∙ ap (λ o. not (same_outcome (in_slot mid.lets l) o)) (sym set_there)

    flag_other : (slot : ℕ) → slot ≢ l → flag_at next slot ≡ flag_at flags slot
    flag_other slot differ =
        ap (λ (xs : List Bool). flag_at xs slot) sets.flagged
        ∙ get_or-set_other flags l slot (not (same_outcome (in_slot mid.lets l) (Some (unit_let T mid.lets t.expr).answer))) false differ

    differs_other : (slot : ℕ) → slot ≢ l → differs mid.lets new.lets slot ≡ false
    differs_other slot differ = same_outcomes mid.lets new.lets slot (sym (other_outcome slot differ))

    or_false : (b c : Bool) → c ≡ false → b ≡ (b || c)
    or_false true c is = refl
    or_false false c is = sym is

    false_or : (b c : Bool) → b ≡ false → c ≡ (b || c)
    false_or true c is = absurd (true≢false is)
    false_or false c is = refl

    -- a flag is set next where it was, or where the outcome differs
    flags_then : (slot : ℕ) → flag_at next slot ≡ (flag_at flags slot || differs mid.lets new.lets slot)
    flags_then slot = elim (cases_eq slot l) [
      | inl same ↦ subst (λ (k : ℕ). flag_at next k ≡ (flag_at flags k || differs mid.lets new.lets k)) (sym same)
          (flag_there ∙ false_or (flag_at flags l) (differs mid.lets new.lets l) (so.flagged l ∙ same_outcomes old.lets mid.lets l (sym given)))
      | inr differ ↦ flag_other slot differ ∙ or_false (flag_at flags slot) (differs mid.lets new.lets slot) (differs_other slot differ)
    ]

    pair_reads : (p n : ℕ) → reads_in (held_by new) (under p n) ≡ reads_in (held_by mid) (under p n)
    pair_reads p n =
        ap (λ (found : OutcomeTable). if nat_lt p found.patterns then reads_at new.reads.entries (place_in found.patterns p n) else None) sets.found
        ∙ ap (λ (k : KeptReads). if nat_lt p mid.found.patterns then reads_at k.entries (place_in mid.found.patterns p n) else None) sets.reads

    keeps_run : KeepsRun plan T l (masked l flags mid) (masked (l + 1) next new)
    keeps_run = record {
      few = omega (
        arith,
        ap length sets.lets,
        within_slots mid.lets l (unit_let T mid.lets t.expr).answer (length plan.lets) within reached.keeps.few,
      );
      outcome = set_there ∙ sym (ap (let_gives T mid.lets) there);
      others = other_outcome;
      outcomes = λ p n. ap (λ (found : OutcomeTable). outcome_at found p n) sets.found;
      read = λ held is.
          subst (λ (xs : List Read). HeldAlike T held (noted xs)) (sym (ap (let_reads T mid.lets) there))
          (entry_is held (sym set_reads ∙ sym (mask_below (l + 1) l next new (omega arith)) ∙ is));
      reads = each;
    }
      where
        each : (unit : ValidationUnit) → unit ≢ in_force l →
            masked_reads (l + 1) next new unit ≡ unless_changed (differs mid.lets new.lets) (masked_reads l flags mid unit)
        each (under p n) other =
            ap (unless_changed (flag_at next)) (pair_reads p n)
            ∙ then_changed (flag_at flags) (differs mid.lets new.lets) (flag_at next) flags_then (reads_in (held_by mid) (under p n))
        each (in_force slot) other = by (cases_eq slot l) (cases_lt slot l)
          where
            by : (slot ≡ l) ⊎ (slot ≡ l → ⊥) → (slot < l) ⊎ (l ≤ slot) →
                masked_reads (l + 1) next new (in_force slot) ≡ unless_changed (differs mid.lets new.lets) (masked_reads l flags mid (in_force slot))
            by (inl same) h = absurd (other (ap in_force same))
            by (inr differ) (inl below) =
                mask_below (l + 1) slot next new (omega (arith, below)) ∙ other_reads slot differ ∙ sym (mask_below l slot flags mid below)
                ∙ sym (none_changed (differs mid.lets new.lets) (masked_reads l flags mid (in_force slot))
                (λ held at is read. differs_other at (λ same. omega (arith, reached.keeps.before slot at held is read, below, same))))
            by (inr differ) (inr past) =
                mask_past (l + 1) slot next new (omega (arith, past, differ)) ∙ ap (unless_changed (flag_at next)) (other_reads slot differ)
                ∙ then_changed (flag_at flags) (differs mid.lets new.lets) (flag_at next) flags_then (reads_at mid.let_reads.entries slot)
                ∙ sym (ap (unless_changed (differs mid.lets new.lets)) (mask_past l slot flags mid past))

    pub so_set : LetsSo plan old new next
    so_set = record {
      found = sets.found ∙ so.found;
      reads = sets.reads ∙ so.reads;
      places = ap length sets.let_reads ∙ length-set mid.let_reads.entries l entry ∙ so.places;
      flag_count = ap length sets.flagged ∙ length-set flags l (not (same_outcome (in_slot mid.lets l) (Some (unit_let T mid.lets t.expr).answer)))
          ∙ so.flag_count;
      flagged = λ slot. (elim (cases_eq slot l) [
        | inl same ↦ subst (λ (k : ℕ). flag_at next k ≡ differs old.lets new.lets k) (sym same)
            (flag_there ∙ ap (λ o. not (same_outcome o (in_slot new.lets l))) given)
        | inr differ ↦ flag_other slot differ ∙ so.flagged slot ∙ ap (λ o. not (same_outcome (in_slot old.lets slot) o))
            (sym (other_outcome slot differ))
      ]);
    }

    module _ (runs : let_runs l flags mid ≡ true) where
      pub reached_set : (held : Recorded) → entry ≡ Some held → Reached plan T (in_force (l + 1)) (seen_in old) (masked (l + 1) next new)
      reached_set held is =
          go.lets.ran l (seen_in old) (masked l flags mid) (masked (l + 1) next new) reached (stale_told l flags mid ∙ runs) keeps_run
          (ap is_none (mask_below (l + 1) l next new (omega arith) ∙ set_reads ∙ is))

      pub goes_set : GoesOn plan T (seen_in old) (masked (l + 1) next new)
      goes_set = go.lets.stops l (seen_in old) (masked l flags mid) (masked (l + 1) next new) reached (stale_told l flags mid ∙ runs) keeps_run

  -- Steps

  pub let_on : (l : ℕ) (old mid new : KeptUnits) (flags next : List Bool) (before middle after : ℕ) → l < length plan.lets →
      l < length mid.let_reads.entries →
      LetsRefreshed plan T l old mid flags before middle → RefreshesLet plan T l mid new flags next middle after →
      LetsRefreshed plan T (l + 1) old new next before after
  let_on l old mid new flags next before middle after within place refreshed (let_ran runs ran) =
      let t = let_there plan l within in
      let run : RunsLet T (unit_let T mid.lets t.0.expr) l mid new flags next middle after =
      subst (λ (o : Option LetInForce). IfSome o (λ u. RunsLet T (unit_let T mid.lets u.expr) l mid new flags next middle after)) t.1 ran in
      let told : is_run plan T (seen_in old) (in_force l) ≡ true = let_told l old mid flags refreshed.reached ∙ runs in
      let here = let_here mid.lets l t.0 t.1 (earlier l old mid flags (omega (arith, within)) refreshed.reached) in
      let entry_is : (held : Recorded) → Some run.keeps.held ≡ Some held → HeldAlike T held (noted (unit_let T mid.lets t.0.expr).reads) =
      λ held is. let same : run.keeps.held ≡ held = cc in subst (λ (h : Recorded). HeldAlike T h (noted (unit_let T mid.lets t.0.expr).reads)) same
      run.keeps.alike in
      record {
        so = so_set l t.0 t.1 (Some run.keeps.held) old mid new flags next within place refreshed.so refreshed.reached entry_is run.keeps.sets;
        reached = reached_set l t.0 t.1 (Some run.keeps.held) old mid new flags next within place refreshed.so refreshed.reached entry_is
            run.keeps.sets runs run.keeps.held refl;
        raised = subst (λ (units : List ValidationUnit). Raised plan T (filter (is_run plan T (seen_in old)) units) before after) (sym (let_more l))
            (raised_in plan T (is_run plan T (seen_in old)) (lets_below l) (in_force l) before middle after told refreshed.raised
            (raised_let plan T (unit_let T mid.lets t.0.expr) l middle after here.is here.work run.took));
      }
  let_on l old mid new flags next before middle after within place refreshed (let_left runs leaves same) =
      let told : is_run plan T (seen_in old) (in_force l) ≡ false = let_told l old mid flags refreshed.reached ∙ runs in
      subst (λ (k : KeptUnits). LetsRefreshed plan T (l + 1) old k next before after) (sym leaves.kept)
      (subst (λ (xs : List Bool). LetsRefreshed plan T (l + 1) old mid xs before after) (sym same) (record {
        so = refreshed.so;
        reached = subst (λ k. Reached plan T (in_force (l + 1)) (seen_in old) k) (sym (mask_passed l flags mid runs))
            (go.lets.left l (seen_in old) (masked l flags mid) refreshed.reached (stale_told l flags mid ∙ runs));
        raised = subst (λ (units : List ValidationUnit). Raised plan T (filter (is_run plan T (seen_in old)) units) before after) (sym (let_more l))
            (raised_out plan T (is_run plan T (seen_in old)) (lets_below l) (in_force l) before middle after told refreshed.raised leaves.count);
      }))

  -- no let so far
  pub lets_begin : (kept : KeptUnits) (flags : List Bool) (count : ℕ) → Keeps plan T (seen_in kept) → length flags ≡ length plan.lets →
      ((slot : ℕ) → flag_at flags slot ≡ false) →
      LetsRefreshed plan T 0 kept kept flags count count
  lets_begin kept flags count keeps flag_count unset = record {
    so = record {
      found = refl;
      reads = refl;
      places = refl;
      flag_count = flag_count;
      flagged = λ slot. unset slot ∙ sym (same_outcomes kept.lets kept.lets slot refl);
    };
    reached = subst (λ k. Reached plan T (in_force 0) (seen_in kept) k) (sym (unmasked flags kept unset)) (go.lets.begins (seen_in kept) keeps);
    raised = raised_none plan T count;
  }

  -- the lets were refreshed up to one of them
  rest_of : (l : ℕ) → l < length plan.lets → (rest : List ValidationUnit) × (let_units plan ≡ (lets_below l ++ in_force l ∷ []) ++ rest)
  rest_of l within =
      let count : length plan.lets ≡ (l + 1) + (length plan.lets - (l + 1)) = omega (arith, within) in
      let last = range_with_len (0 + (l + 1)) (length plan.lets - (l + 1)) in (
        map in_force last,
        ap (map in_force) (ap (range_with_len 0) count ∙ range_split 0 (l + 1) (length plan.lets - (l + 1)))
            ∙ map-append in_force (range_with_len 0 (l + 1)) last ∙ ap (λ units. units ++ map in_force last) (let_more l),
      )

  pub let_cut : (l : ℕ) (old mid new : KeptUnits) (flags next : List Bool) (before middle after : ℕ) → l < length plan.lets →
      l < length mid.let_reads.entries →
      LetsRefreshed plan T l old mid flags before middle → LetStops plan T l mid new flags next middle after →
      LetsCut plan T old new next before after
  let_cut l old mid new flags next before middle after within place refreshed stops =
      let t = let_there plan l within in
      let cuts : CutsLet (unit_let T mid.lets t.0.expr) l mid new flags next middle after =
      subst (λ (o : Option LetInForce). IfSome o (λ u. CutsLet (unit_let T mid.lets u.expr) l mid new flags next middle after)) t.1 stops.cuts in
      let told : is_run plan T (seen_in old) (in_force l) ≡ true = let_told l old mid flags refreshed.reached ∙ stops.runs in
      let here = let_here mid.lets l t.0 t.1 (earlier l old mid flags (omega (arith, within)) refreshed.reached) in
      let rest = rest_of l within in
      let spent : SpentOn plan T (filter (is_run plan T (seen_in old)) (let_units plan)) before after =
      subst (λ (units : List ValidationUnit). SpentOn plan T (filter (is_run plan T (seen_in old)) units) before after) (sym rest.1)
      (spent_in plan T (is_run plan T (seen_in old)) (lets_below l) rest.0 (in_force l) before middle after told
      (spent_raised plan T (filter (is_run plan T (seen_in old)) (lets_below l)) before middle refreshed.raised)
      (spent_one plan T (in_force l) middle after cuts.spent.later (omega (arith, cuts.spent.at_most, here.work)))) in
      by t.0 t.1 spent cuts.cut
    where
      gives : (slot : ℕ) → slot < l → in_slot mid.lets slot ≡ in_slot (lets_of plan T) slot
      gives = earlier l old mid flags (omega (arith, within)) refreshed.reached

      by : (t : LetInForce) → slice_get plan.lets l ≡ Some t → SpentOn plan T (filter (is_run plan T (seen_in old)) (let_units plan)) before after →
          LetCut (unit_let T mid.lets t.expr).answer l mid new flags next → LetsCut plan T old new next before after
      by t there spent (let_unset same flags_same) =
          subst (λ (k : KeptUnits). LetsCut plan T old k next before after) (sym same)
          (subst (λ (xs : List Bool). LetsCut plan T old mid xs before after) (sym flags_same) (record {
            so = refreshed.so;
            l = l;
            goes_on = go.stops (in_force l) (seen_in old) (masked l flags mid) refreshed.reached;
            within = omega (arith, within);
            gives = λ slot other less below. gives other (omega (arith, less, below));
            spent = spent;
          }))
      by t there spent (let_unread sets) = record {
        so = so_set l t there None old mid new flags next within place refreshed.so refreshed.reached (λ held is. absurd (cc)) sets;
        l = l + 1;
        goes_on = goes_set l t there None old mid new flags next within place refreshed.so refreshed.reached (λ held is. absurd (cc)) sets stops.runs;
        within = omega (arith, within);
        gives = λ slot other less below.
            other_outcome l t there None old mid new flags next within place refreshed.so refreshed.reached (λ held is. absurd (cc)) sets other
            (λ same. omega (arith, less, below, same))
            ∙ gives other (omega (arith, less, below));
        spent = spent;
      }
