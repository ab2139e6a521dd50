-- What is kept before and after a refresh, wherever it stops.
use Rattle.std.proofs.Common.{◌≡◌, ◌∙◌, inr, ℕ, ◌+◌, ◌*◌, nat_lt, Bool, true, false, List, [], ◌++◌, length, Option, None, is_none, if◌then◌else◌, refl, sym, ap, subst, arith}
use Rattle.std.proofs.lemmas.Bool.{true≢false}
use Rattle.std.proofs.lemmas.List.Elements.{filter-append}
use Rattle.std.specs.List.{filter, flat_map}
use Rattle.doc_tree.specs.Table.{Table}
use Rattle.xp_outcome.specs.Recorded.{Recorded}
use Rattle.sch_compiled.specs.declared.plan.Plan.{Plan}
use Rattle.sch_compiled.specs.Findings.{OutcomeTable}
use Rattle.sch_units.specs.Validity.{pattern_numbers}
use Rattle.edit_costs.specs.Costs.{Raised}
use Rattle.edit_costs.specs.Evaluating.{SpentOn}
use Rattle.edit_costs.specs.Units.{ValidationUnit, in_force, under, let_units, node_units}
use Rattle.edit_costs.proofs.RaisedLemmas.{raised_then, spent_raised}
use Rattle.kept_state.specs.Kept.{Keeps, Kept}
use Rattle.kept_state.specs.Refreshing.{RefreshesGoOn}
use Rattle.kept_state.specs.Running.{GoesOn, IsFresh, is_run, to_run}
use Rattle.kept_state.specs.Steps.{StaysAs}
use Rattle.kept_reads.specs.declared.kept_reads.KeptReads.{KeptReads}
use Rattle.kept_reads.specs.Reads.{may_be_stale, reads_at}
use Rattle.kept_units.specs.declared.kept_units.KeptUnits.{KeptUnits}
use Rattle.kept_units.specs.Keeping.{IsHeld, held_by, place_of, reads_in, seen_in}
use Rattle.kept_units.specs.inner.Refreshing.{LetsDone, LetsGo, PairsReady, PassesNodes, PatternsCut, PatternsRefreshed, Reaches, UnitsDone, UnitsGo}
use Rattle.kept_units.proofs.PairLemmas.{held_alone}
use Rattle.kept_units.proofs.RaisedLemmas.{spent_more, spent_then}
use Rattle.kept_units.proofs.SeenLemmas.{same_seen, seen_pair}

-- Places are made

pub seen_reached : (plan : Plan) (T : Table) (old new : KeptUnits) → Reaches plan T old new → seen_in new ≡ seen_in old
seen_reached plan T old new reaches = same_seen old new reaches.lets reaches.found reaches.let_reads reaches.reads

pub held_reached : (plan : Plan) (T : Table) (old new : KeptUnits) → Reaches plan T old new → IsHeld plan T old → IsHeld plan T new
held_reached plan T old new reaches held = record {
  patterns = ap (λ (table : OutcomeTable). table.patterns) reaches.found ∙ held.patterns;
  lets_short = reaches.lets_short held.lets_short;
  short = reaches.short held.short;
  blocks = omega (arith, ap (λ v. length v.items) reaches.blocks, held.blocks);
  passed = λ p n low live clean.
      ap is_none (reaches.reads (place_of plan p n)) ∙ held.passed p n low live (ap (λ v. may_be_stale v.items n) (sym reaches.blocks) ∙ clean);
}

pub keeps_reached : (plan : Plan) (T : Table) (old new : KeptUnits) → Reaches plan T old new → Keeps plan T (seen_in old) → Keeps plan T (seen_in new)
keeps_reached plan T old new reaches keeps = subst (Keeps plan T) (sym (seen_reached plan T old new reaches)) keeps

-- where no more than places was made
pub goes_reached : (plan : Plan) (T : Table) (old new : KeptUnits) → Reaches plan T old new → Keeps plan T (seen_in old) →
    GoesOn plan T (seen_in old) (seen_in new)
goes_reached plan T old new reaches keeps =
    subst (λ (k : Kept). GoesOn plan T (seen_in old) k) (sym (seen_reached plan T old new reaches))
    (record { keeps = keeps; some = λ unit exists runs. inr (inr (stays unit)); others = λ unit exists none. stays unit })
  where
    stays : (unit : ValidationUnit) → StaysAs (seen_in old) (seen_in old) unit
    stays (in_force slot) = record { given = refl; reads = refl }
    stays (under p n) = record { given = refl; reads = refl }

-- what holds from the state with places holds from that without
module _ (plan : Plan) (T : Table) (old mid new : KeptUnits) (before after : ℕ) (reaches : Reaches plan T old mid) where
  pub goes_from : GoesOn plan T (seen_in mid) (seen_in new) → GoesOn plan T (seen_in old) (seen_in new)
  goes_from goes = subst (λ (k : Kept). GoesOn plan T k (seen_in new)) (seen_reached plan T old mid reaches) goes

  pub spent_from : SpentOn plan T (to_run plan T (seen_in mid)) before after → SpentOn plan T (to_run plan T (seen_in old)) before after
  spent_from spent = subst (λ (k : Kept). SpentOn plan T (to_run plan T k) before after) (seen_reached plan T old mid reaches) spent

  pub raised_from : Raised plan T (to_run plan T (seen_in mid)) before after → Raised plan T (to_run plan T (seen_in old)) before after
  raised_from raised = subst (λ (k : Kept). Raised plan T (to_run plan T k) before after) (seen_reached plan T old mid reaches) raised

-- Units to run

-- the lets first, and then the nodes under patterns
to_run_parts : (plan : Plan) (T : Table) (kept : Kept) → to_run plan T kept ≡
    filter (is_run plan T kept) (let_units plan) ++ filter (is_run plan T kept) (flat_map (node_units T) (pattern_numbers plan))
to_run_parts plan T kept = filter-append (is_run plan T kept) (let_units plan) (flat_map (node_units T) (pattern_numbers plan))

-- where the lets were cut short
pub units_cut_lets : (plan : Plan) (T : Table) (old new : KeptUnits) (before after : ℕ) → LetsGo plan T old new before after →
    UnitsGo plan T old new before after
units_cut_lets plan T old new before after go = record {
  held = go.held;
  goes_on = go.goes_on;
  spent = subst (λ (units : List ValidationUnit). SpentOn plan T units before after) (sym (to_run_parts plan T (seen_in old)))
      (spent_more plan T (filter (is_run plan T (seen_in old)) (let_units plan))
      (filter (is_run plan T (seen_in old)) (flat_map (node_units T) (pattern_numbers plan))) before after go.spent);
}

module _ (plan : Plan) (T : Table) (old lets new : KeptUnits) (before middle after : ℕ) (go : LetsGo plan T old lets before middle)
    (done : LetsDone plan T old lets before middle) where
  pub pairs_ready : PairsReady plan T lets
  pairs_ready = record { lets = done.lets; few = done.reached.keeps.few; held = go.held }

  -- where the nodes under patterns were cut short
  pub units_cut : PatternsCut plan T lets new middle after → UnitsGo plan T old new before after
  units_cut cut = record {
    held = held_alone plan T lets new cut.alone go.held;
    goes_on = cut.goes_on (seen_in old) done.reached;
    spent = subst (λ (units : List ValidationUnit). SpentOn plan T units before after) (sym (to_run_parts plan T (seen_in old)))
        (spent_then plan T (filter (is_run plan T (seen_in old)) (let_units plan))
        (filter (is_run plan T (seen_in old)) (flat_map (node_units T) (pattern_numbers plan))) before middle after
        go.spent (cut.spent (seen_in old) done.reached));
  }

  -- where all were refreshed
  module _ (goes : RefreshesGoOn plan T) (refreshed : PatternsRefreshed plan T (length plan.patterns) lets new middle after) where
    pub units_done : UnitsDone plan T old new before after
    units_done = record {
      fresh = goes.pairs.over (length plan.patterns) 0 (seen_in old) (seen_in new) (refreshed.reached (seen_in old) done.reached) (omega arith);
      raised = subst (λ (units : List ValidationUnit). Raised plan T units before after) (sym (to_run_parts plan T (seen_in old)))
          (raised_then plan T (filter (is_run plan T (seen_in old)) (let_units plan))
          (filter (is_run plan T (seen_in old)) (flat_map (node_units T) (pattern_numbers plan))) before middle after
          done.raised (refreshed.raised (seen_in old) done.reached));
    }

    pub units_all : UnitsGo plan T old new before after
    units_all = record {
      held = held_alone plan T lets new refreshed.alone go.held;
      goes_on = goes.stops (under (length plan.patterns) 0) (seen_in old) (seen_in new) (refreshed.reached (seen_in old) done.reached);
      spent = spent_raised plan T (to_run plan T (seen_in old)) before after units_done.raised;
    }

-- No node is stale

pub seen_passed : (T : Table) (old new : KeptUnits) → PassesNodes T old new → seen_in new ≡ seen_in old
seen_passed T old new passes = same_seen old new passes.lets passes.found (λ slot. ap (λ (k : KeptReads). reads_at k.entries slot) passes.let_reads)
    (λ place. ap (λ (entries : List (Option Recorded)). reads_at entries place) passes.reads.entries)

pub fresh_passed : (plan : Plan) (T : Table) (old new : KeptUnits) → PassesNodes T old new → IsFresh plan T (seen_in old) →
    IsFresh plan T (seen_in new)
fresh_passed plan T old new passes fresh = subst (IsFresh plan T) (sym (seen_passed T old new passes)) fresh

pub goes_passed : (plan : Plan) (T : Table) (old mid new : KeptUnits) → PassesNodes T mid new → GoesOn plan T (seen_in old) (seen_in mid) →
    GoesOn plan T (seen_in old) (seen_in new)
goes_passed plan T old mid new passes goes = subst (λ (k : Kept). GoesOn plan T (seen_in old) k) (sym (seen_passed T mid new passes)) goes

pub held_passed : (plan : Plan) (T : Table) (old new : KeptUnits) → PassesNodes T old new → IsFresh plan T (seen_in old) → IsHeld plan T old →
    IsHeld plan T new
held_passed plan T old new passes fresh held = record {
  patterns = ap (λ (table : OutcomeTable). table.patterns) passes.found ∙ held.patterns;
  lets_short = omega (arith, ap (λ (k : KeptReads). length k.entries) passes.let_reads, held.lets_short);
  short = omega (arith, ap length passes.reads.entries, held.short);
  blocks = omega (arith, passes.reads.blocks);
  passed = λ p n low live clean.
      let done = fresh.done (under p n) (low, live) in
      ap (λ (entries : List (Option Recorded)). is_none (reads_at entries (place_of plan p n))) passes.reads.entries
      ∙ ap is_none (sym (seen_pair plan p n old held.patterns low) ∙ done.is);
}

-- Nothing is kept

pub nothing_seen : (kept : KeptUnits) → kept.let_reads.entries ≡ [] → kept.reads.entries ≡ [] → (unit : ValidationUnit) →
    reads_in (held_by kept) unit ≡ None
nothing_seen kept let_reads reads (in_force slot) = ap (λ (entries : List (Option Recorded)). reads_at entries slot) let_reads
nothing_seen kept let_reads reads (under p n) =
    ap (λ (entries : List (Option Recorded)). if nat_lt p kept.found.patterns then reads_at entries (n * kept.found.patterns + p) else None) reads
    ∙ by (nat_lt p kept.found.patterns)
  where
    by : (b : Bool) → (if b then reads_at [] (n * kept.found.patterns + p) else None) ≡ None
    by true = refl
    by false = refl

pub held_nothing : (plan : Plan) (T : Table) (kept : KeptUnits) → kept.found.patterns ≡ length plan.patterns → kept.let_reads.entries ≡ [] →
    kept.reads.entries ≡ [] → kept.reads.stale_blocks.items ≡ [] →
    IsHeld plan T kept
held_nothing plan T kept patterns let_reads reads blocks = record {
  patterns = patterns;
  lets_short = omega (arith, ap length let_reads);
  short = omega (arith, ap length reads);
  blocks = omega (arith, ap length blocks);
  passed = λ p n low live clean. absurd (true≢false (ap (λ (flags : List Bool). may_be_stale flags n) (sym blocks) ∙ clean));
}
