-- What a refresh does, unit by unit.
use Rattle.std.specs.Prelude.{◌≡◌, ◌≢◌, ℕ, ◌+◌, ◌*◌, ◌<◌, ◌≤◌, ◌⊎◌, nat_lt, Bool, true, false, not, List, length, filter, Option, None, Some, IfSome, Result, is_none, if◌then◌else◌, slice_get, slice_set, flat_map}
use Rattle.doc_tree.specs.Table.{Table, is_live}
use Rattle.xp_outcome.specs.Evaluation.{Evaluation}
use Rattle.xp_outcome.specs.Recorded.{Recorded}
use Rattle.xp_outcome.specs.Slots.{in_slot, with_slot}
use Rattle.xp_values.specs.declared.values.Value.{Value}
use Rattle.xp_values.specs.declared.values.EvalFault.{EvalFault}
use Rattle.sch_compiled.specs.declared.findings.Outcome.{Outcome}
use Rattle.sch_compiled.specs.declared.plan.Plan.{Plan}
use Rattle.sch_compiled.specs.Findings.{Puts, outcome_at}
use Rattle.sch_compiled.specs.Soundness.{IsCounted}
use Rattle.sch_units.specs.Units.{lets_of, unit_let, unit_pair}
use Rattle.sch_units.specs.Validity.{outcome_of, pattern_numbers}
use Rattle.edit_costs.specs.SameOutcome.{same_outcome}
use Rattle.edit_costs.specs.Units.{ValidationUnit, in_force, under, let_units, node_units}
use Rattle.edit_costs.specs.Costs.{Raised}
use Rattle.edit_costs.specs.Evaluating.{SpentOn, Took, lets_below, nodes_below, patterns_below}
use Rattle.cover_laws.specs.Covering.{HeldAlike}
use Rattle.kept_state.specs.Kept.{Kept, noted}
use Rattle.kept_state.specs.Refreshing.{Reached}
use Rattle.kept_state.specs.Running.{GoesOn, IsFresh, is_run, to_run}
use Rattle.kept_state.specs.Steps.{differs, unless_changed}
use Rattle.kept_reads.specs.Forgetting.{flag_at, unless_flagged}
use Rattle.kept_reads.specs.KeptReads.{Passes}
use Rattle.kept_reads.specs.Reads.{may_be_stale, reads_at}
use Rattle.kept_units.specs.declared.kept_units.KeptUnits.{KeptUnits}
use Rattle.kept_units.specs.Keeping.{IsHeld, place_of, reads_in, held_by, seen_in}

-- Counts

-- a count rose for an evaluation that may have been cut short
pub record Spent {F A : Type 0} (m : Evaluation F A) (before after : ℕ) : Type 0 where
  pub later : before ≤ after
  pub at_most : after ≤ before + m.work

-- Places

-- all stays as it was
pub record Leaves (old new : KeptUnits) (before after : ℕ) : Type 0 where
  pub kept : new ≡ old
  pub count : after ≡ before

-- places are made, and nothing else changes
pub record Reaches (plan : Plan) (T : Table) (old new : KeptUnits) : Type 0 where
  pub lets : new.lets ≡ old.lets
  pub found : new.found ≡ old.found
  pub lets_short : length old.let_reads.entries ≤ length plan.lets → length new.let_reads.entries ≤ length plan.lets
  pub short : length old.reads.entries ≤ length T * length plan.patterns → length new.reads.entries ≤ length T * length plan.patterns
  pub let_reads : (slot : ℕ) → reads_at new.let_reads.entries slot ≡ reads_at old.let_reads.entries slot
  pub reads : (place : ℕ) → reads_at new.reads.entries place ≡ reads_at old.reads.entries place
  pub blocks : new.reads.stale_blocks ≡ old.reads.stale_blocks

-- there are places for all units
pub record HasPlaces (plan : Plan) (T : Table) (kept : KeptUnits) : Type 0 where
  pub lets : length plan.lets ≤ length kept.let_reads.entries
  pub pairs : length T * length plan.patterns ≤ length kept.reads.entries

-- Lets in force

-- what is kept of what units read, where lets have another outcome: the lets below a slot have been evaluated since
abbrev pub masked_reads : ℕ → List Bool → KeptUnits → ValidationUnit → Option Recorded
masked_reads l flags kept (in_force slot) =
    if nat_lt slot l then reads_at kept.let_reads.entries slot else unless_changed (flag_at flags) (reads_at kept.let_reads.entries slot)
masked_reads l flags kept (under p n) = unless_changed (flag_at flags) (reads_in (held_by kept) (under p n))

abbrev pub masked : ℕ → List Bool → KeptUnits → Kept
masked l flags kept = record { lets = kept.lets; outcomes = outcome_at kept.found; reads = masked_reads l flags kept }

-- a let in force has an outcome, and it is known whether that is another one; of what it read this is kept
pub record SetsLet (outcome : Result Value EvalFault) (l : ℕ) (entry : Option Recorded) (old new : KeptUnits)
    (flags new_flags : List Bool) : Type 0 where
  pub found : new.found ≡ old.found
  pub reads : new.reads ≡ old.reads
  pub lets : new.lets ≡ with_slot old.lets l outcome
  pub let_reads : new.let_reads.entries ≡ slice_set old.let_reads.entries l entry
  pub flagged : new_flags ≡ slice_set flags l (not (same_outcome (in_slot old.lets l) (Some outcome)))

-- what it read is kept but for covered cells
pub record KeepsLet (T : Table) (outcome : Result Value EvalFault) (reads : Recorded) (l : ℕ) (old new : KeptUnits)
    (flags new_flags : List Bool) : Type 0 where
  pub held : Recorded
  pub alike : HeldAlike T held reads
  pub sets : SetsLet outcome l (Some held) old new flags new_flags

-- what is left where no memory was found: all stays, or the let has its outcome and is stale
pub data LetCut (outcome : Result Value EvalFault) (l : ℕ) (old new : KeptUnits) (flags new_flags : List Bool) : Type 0 where
  let_unset : new ≡ old → new_flags ≡ flags → LetCut outcome l old new flags new_flags
  let_unread : SetsLet outcome l None old new flags new_flags → LetCut outcome l old new flags new_flags

-- a let in force was evaluated
pub record RunsLet (T : Table) (m : Evaluation EvalFault Value) (l : ℕ) (old new : KeptUnits) (flags new_flags : List Bool)
    (before after : ℕ) : Type 0 where
  pub keeps : KeepsLet T m.answer (noted m.reads) l old new flags new_flags
  pub took : Took m before after

-- its evaluation was cut short
pub record CutsLet (m : Evaluation EvalFault Value) (l : ℕ) (old new : KeptUnits) (flags new_flags : List Bool) (before after : ℕ) : Type 0 where
  pub cut : LetCut m.answer l old new flags new_flags
  pub spent : Spent m before after

-- whether a let is evaluated, by what is kept of it
abbrev pub let_runs : ℕ → List Bool → KeptUnits → Bool
let_runs l flags kept = is_none (unless_flagged flags (reads_at kept.let_reads.entries l))

-- a let in force was evaluated where it is to be
pub data RefreshesLet (plan : Plan) (T : Table) (l : ℕ) (old new : KeptUnits) (flags new_flags : List Bool) (before after : ℕ) : Type 0 where
  let_ran : let_runs l flags old ≡ true → IfSome (slice_get plan.lets l)
      (λ t. RunsLet T (unit_let T old.lets t.expr) l old new flags new_flags before after) →
      RefreshesLet plan T l old new flags new_flags before after
  let_left : let_runs l flags old ≡ false → Leaves old new before after → new_flags ≡ flags →
      RefreshesLet plan T l old new flags new_flags before after

-- a let in force that is to be evaluated was cut short
pub record LetStops (plan : Plan) (T : Table) (l : ℕ) (old new : KeptUnits) (flags new_flags : List Bool) (before after : ℕ) : Type 0 where
  pub runs : let_runs l flags old ≡ true
  pub cuts : IfSome (slice_get plan.lets l) (λ t. CutsLet (unit_let T old.lets t.expr) l old new flags new_flags before after)

-- nothing but lets in force changed, and the flags tell which of them have another outcome
pub record LetsSo (plan : Plan) (old new : KeptUnits) (flags : List Bool) : Type 0 where
  pub found : new.found ≡ old.found
  pub reads : new.reads ≡ old.reads
  pub places : length new.let_reads.entries ≡ length old.let_reads.entries
  pub flag_count : length flags ≡ length plan.lets
  pub flagged : (slot : ℕ) → flag_at flags slot ≡ differs old.lets new.lets slot

-- the refresh has come to the let in a slot, where those count as stale that read a let with another outcome
pub record LetsRefreshed (plan : Plan) (T : Table) (l : ℕ) (old new : KeptUnits) (flags : List Bool) (before after : ℕ) : Type 0 where
  pub so : LetsSo plan old new flags
  pub reached : Reached plan T (in_force l) (seen_in old) (masked l flags new)
  pub raised : Raised plan T (filter (is_run plan T (seen_in old)) (lets_below l)) before after

-- the lets were refreshed up to one of them
pub record LetsCut (plan : Plan) (T : Table) (old new : KeptUnits) (flags : List Bool) (before after : ℕ) : Type 0 where
  pub so : LetsSo plan old new flags
  pub l : ℕ
  pub goes_on : GoesOn plan T (seen_in old) (masked l flags new)
  pub within : l ≤ length plan.lets
  -- those before the let in an earlier slot have the outcomes of the tree
  pub gives : (slot other : ℕ) → other < slot → slot < l → in_slot new.lets other ≡ in_slot (lets_of plan T) other
  pub spent : SpentOn plan T (filter (is_run plan T (seen_in old)) (let_units plan)) before after

-- once those that read a let with another outcome are forgotten, whatever stopped the refresh of lets
pub record LetsGo (plan : Plan) (T : Table) (old new : KeptUnits) (before after : ℕ) : Type 0 where
  pub held : IsHeld plan T new
  pub goes_on : GoesOn plan T (seen_in old) (seen_in new)
  pub spent : SpentOn plan T (filter (is_run plan T (seen_in old)) (let_units plan)) before after

-- and where nothing stopped it
pub record LetsDone (plan : Plan) (T : Table) (old new : KeptUnits) (before after : ℕ) : Type 0 where
  pub lets : new.lets ≡ lets_of plan T
  pub reached : Reached plan T (under 0 0) (seen_in old) (seen_in new)
  pub places : length new.reads.entries ≡ length old.reads.entries
  pub raised : Raised plan T (filter (is_run plan T (seen_in old)) (let_units plan)) before after

-- Nodes under patterns

-- the nodes under a pattern may be evaluated, and have places
pub record IsReady (plan : Plan) (T : Table) (p : ℕ) (kept : KeptUnits) : Type 0 where
  pub counted : IsCounted plan
  pub active : p < length plan.patterns
  pub few : length kept.lets ≤ length plan.lets
  pub patterns : kept.found.patterns ≡ length plan.patterns
  pub places : length T * length plan.patterns ≤ length kept.reads.entries

-- whether nothing is kept of what a node read under a pattern
abbrev pub pair_runs : Plan → ℕ → ℕ → KeptUnits → Bool
pair_runs plan p n kept = is_none (reads_at kept.reads.entries (place_of plan p n))

-- nothing but nodes under patterns changed, and none of them became stale
pub record PairsAlone (old new : KeptUnits) : Type 0 where
  pub lets : new.lets ≡ old.lets
  pub let_reads : new.let_reads ≡ old.let_reads
  pub patterns : new.found.patterns ≡ old.found.patterns
  pub places : length new.reads.entries ≡ length old.reads.entries
  pub blocks : new.reads.stale_blocks ≡ old.reads.stale_blocks
  pub stays : (place : ℕ) → is_none (reads_at old.reads.entries place) ≡ false → is_none (reads_at new.reads.entries place) ≡ false

-- a node has an outcome under a pattern, and of what it read this is kept
pub record PutsPair (plan : Plan) (outcome : Outcome) (held : Recorded) (p n : ℕ) (old new : KeptUnits) : Type 0 where
  pub found : Puts old.found new.found p n (Some outcome)
  pub entries : new.reads.entries ≡ slice_set old.reads.entries (place_of plan p n) (Some held)

-- what it read is kept but for covered cells
pub record KeepsPair (plan : Plan) (T : Table) (outcome : Outcome) (reads : Recorded) (p n : ℕ) (old new : KeptUnits) : Type 0 where
  pub held : Recorded
  pub alike : HeldAlike T held reads
  pub puts : PutsPair plan outcome held p n old new

-- what is left where no memory was found: its outcome may be there, and it is stale still
pub record PairCut (p n : ℕ) (old new : KeptUnits) : Type 0 where
  pub others : (q k : ℕ) → (q ≢ p) ⊎ (k ≢ n) → outcome_at new.found q k ≡ outcome_at old.found q k
  pub entries : (place : ℕ) → reads_at new.reads.entries place ≡ reads_at old.reads.entries place

-- a node under a pattern was evaluated
pub record RunsPair (plan : Plan) (T : Table) (p n : ℕ) (old new : KeptUnits) (before after : ℕ) : Type 0 where
  pub keeps : KeepsPair plan T (outcome_of (unit_pair plan T old.lets p n).answer) (noted (unit_pair plan T old.lets p n).reads) p n old new
  pub took : Took (unit_pair plan T old.lets p n) before after

-- its evaluation was cut short
pub record CutsPair (plan : Plan) (T : Table) (p n : ℕ) (old new : KeptUnits) (before after : ℕ) : Type 0 where
  pub cut : PairCut p n old new
  pub spent : Spent (unit_pair plan T old.lets p n) before after

-- a node under a pattern was evaluated where it lives and is stale
pub data RefreshesPair (plan : Plan) (T : Table) (p n : ℕ) (old new : KeptUnits) (before after : ℕ) : Type 0 where
  pair_ran : is_live T n ≡ true → pair_runs plan p n old ≡ true → RunsPair plan T p n old new before after →
      RefreshesPair plan T p n old new before after
  pair_left : is_live T n ≡ true → pair_runs plan p n old ≡ false → Leaves old new before after → RefreshesPair plan T p n old new before after
  pair_dead : is_live T n ≡ false → Leaves old new before after → RefreshesPair plan T p n old new before after

-- a node that is to be evaluated was cut short
pub record PairStops (plan : Plan) (T : Table) (p n : ℕ) (old new : KeptUnits) (before after : ℕ) : Type 0 where
  pub live : is_live T n ≡ true
  pub runs : pair_runs plan p n old ≡ true
  pub cuts : CutsPair plan T p n old new before after

-- from a node under a pattern it is gone on to the next: the node was evaluated where it is to be, or it and those up to the next are
-- passed over, since none of them is stale
pub data StepsOn (plan : Plan) (T : Table) (p n next : ℕ) (old new : KeptUnits) (before after : ℕ) : Type 0 where
  steps_one : next ≡ n + 1 → RefreshesPair plan T p n old new before after → StepsOn plan T p n next old new before after
  steps_past : n < next → ((m : ℕ) → n ≤ m → m < next → may_be_stale old.reads.stale_blocks.items m ≡ false) → Leaves old new before after →
      StepsOn plan T p n next old new before after

-- the lets are those of the tree
pub record PairsReady (plan : Plan) (T : Table) (kept : KeptUnits) : Type 0 where
  pub lets : kept.lets ≡ lets_of plan T
  pub few : length kept.lets ≤ length plan.lets
  pub held : IsHeld plan T kept

-- a refresh that has come to a pattern has come to its node n
pub record NodesRefreshed (plan : Plan) (T : Table) (p n : ℕ) (old new : KeptUnits) (before after : ℕ) : Type 0 where
  pub alone : PairsAlone old new
  pub reached : (was : Kept) → Reached plan T (under p 0) was (seen_in old) → Reached plan T (under p n) was (seen_in new)
  pub raised : (was : Kept) → Reached plan T (under p 0) was (seen_in old) →
      Raised plan T (filter (is_run plan T was) (nodes_below T p n)) before after

-- it was cut short at one of the pattern's nodes
pub record NodesCut (plan : Plan) (T : Table) (p : ℕ) (old new : KeptUnits) (before after : ℕ) : Type 0 where
  pub alone : PairsAlone old new
  pub goes_on : (was : Kept) → Reached plan T (under p 0) was (seen_in old) → GoesOn plan T was (seen_in new)
  pub spent : (was : Kept) → Reached plan T (under p 0) was (seen_in old) → SpentOn plan T (filter (is_run plan T was) (node_units T p)) before after

-- no node that was made is stale under a pattern
pub record PassesNodes (T : Table) (old new : KeptUnits) : Type 0 where
  pub lets : new.lets ≡ old.lets
  pub let_reads : new.let_reads ≡ old.let_reads
  pub found : new.found ≡ old.found
  pub reads : Passes (length T) old.reads new.reads

-- a refresh that has come to the first pattern has come to pattern p
pub record PatternsRefreshed (plan : Plan) (T : Table) (p : ℕ) (old new : KeptUnits) (before after : ℕ) : Type 0 where
  pub alone : PairsAlone old new
  pub reached : (was : Kept) → Reached plan T (under 0 0) was (seen_in old) → Reached plan T (under p 0) was (seen_in new)
  pub raised : (was : Kept) → Reached plan T (under 0 0) was (seen_in old) →
      Raised plan T (filter (is_run plan T was) (patterns_below T p)) before after

-- it was cut short under one of the patterns
pub record PatternsCut (plan : Plan) (T : Table) (old new : KeptUnits) (before after : ℕ) : Type 0 where
  pub alone : PairsAlone old new
  pub goes_on : (was : Kept) → Reached plan T (under 0 0) was (seen_in old) → GoesOn plan T was (seen_in new)
  pub spent : (was : Kept) → Reached plan T (under 0 0) was (seen_in old) →
      SpentOn plan T (filter (is_run plan T was) (flat_map (node_units T) (pattern_numbers plan))) before after

-- All units

-- wherever the refresh stops
pub record UnitsGo (plan : Plan) (T : Table) (old new : KeptUnits) (before after : ℕ) : Type 0 where
  pub held : IsHeld plan T new
  pub goes_on : GoesOn plan T (seen_in old) (seen_in new)
  pub spent : SpentOn plan T (to_run plan T (seen_in old)) before after

-- and where nothing stopped it
pub record UnitsDone (plan : Plan) (T : Table) (old new : KeptUnits) (before after : ℕ) : Type 0 where
  pub fresh : IsFresh plan T (seen_in new)
  pub raised : Raised plan T (to_run plan T (seen_in old)) before after
