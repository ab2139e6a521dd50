-- What is kept of the units of a plan over a tree, by slots and places, and what it is seen as without these.
use Rattle.std.specs.Prelude.{◌≡◌, ℕ, ◌+◌, ◌*◌, ◌<◌, ◌≤◌, nat_lt, true, false, List, length, Option, None, is_none, if◌then◌else◌}
use Rattle.doc_tree.specs.Table.{Table, is_live}
use Rattle.xp_outcome.specs.Recorded.{Recorded}
use Rattle.xp_meaning.specs.Evaluation.{Lets}
use Rattle.sch_compiled.specs.declared.plan.Plan.{Plan}
use Rattle.sch_compiled.specs.Findings.{OutcomeTable, outcome_at}
use Rattle.edit_costs.specs.Units.{ValidationUnit, in_force, under}
use Rattle.kept_state.specs.Kept.{Kept}
use Rattle.kept_reads.specs.Reads.{may_be_stale, reads_at}
use Rattle.kept_units.specs.declared.kept_units.KeptUnits.{KeptUnits}

-- the outcomes of the lets in force and what each read, by slot; the outcomes of nodes under patterns, and what each read, by place
pub record Held : Type 0 where
  pub lets : Lets
  pub let_reads : List (Option Recorded)
  pub found : OutcomeTable
  pub reads : List (Option Recorded)

abbrev pub held_by : KeptUnits → Held
held_by kept = record { lets = kept.lets; let_reads = kept.let_reads.entries; found = kept.found; reads = kept.reads.entries }

-- where what a node read under a pattern stands: each node has a row, with a place for each of so many patterns
abbrev pub place_in : ℕ → ℕ → ℕ → ℕ
place_in patterns p n = n * patterns + p

abbrev pub place_of : Plan → ℕ → ℕ → ℕ
place_of plan p n = place_in (length plan.patterns) p n

-- what is kept of what a unit read
abbrev pub reads_in : Held → ValidationUnit → Option Recorded
reads_in held (in_force slot) = reads_at held.let_reads slot
reads_in held (under p n) = if nat_lt p held.found.patterns then reads_at held.reads (place_in held.found.patterns p n) else None

-- what is kept, seen without slots of reads and places
abbrev pub seen : Held → Kept
seen held = record { lets = held.lets; outcomes = outcome_at held.found; reads = reads_in held }

abbrev pub seen_in : KeptUnits → Kept
seen_in kept = seen (held_by kept)

-- the places are those of the plan's lets and patterns and of nodes that were made, and a block of nodes that is said to have no
-- stale unit has none
pub record IsHeld (plan : Plan) (T : Table) (kept : KeptUnits) : Type 0 where
  pub patterns : kept.found.patterns ≡ length plan.patterns
  pub lets_short : length kept.let_reads.entries ≤ length plan.lets
  pub short : length kept.reads.entries ≤ length T * length plan.patterns
  pub blocks : 64 * length kept.reads.stale_blocks.items ≤ length T
  pub passed : (p n : ℕ) → p < length plan.patterns → is_live T n ≡ true → may_be_stale kept.reads.stale_blocks.items n ≡ false →
      is_none (reads_at kept.reads.entries (place_of plan p n)) ≡ false
