-- What holds of stale units.
use Rattle.std.specs.Prelude.{◌≡◌, ℕ, ◌≤◌, Bool, true, false, ◌||◌, length, Option, None, Some}
use Rattle.doc_tree.specs.cell.Cell.{Cell}
use Rattle.doc_tree.specs.Table.{Table}
use Rattle.xp_outcome.specs.Recorded.{Recorded}
use Rattle.sch_compiled.specs.declared.plan.Plan.{Plan}
use Rattle.kept_units.specs.Units.{ValidationUnit, under}
use Rattle.cover_laws.specs.Covering.{holds_touched}
use Rattle.kept_units.specs.Kept.{Keeps, Kept}
use Rattle.kept_units.specs.Running.{is_stale}
use Rattle.kept_units.specs.Steps.{Marks}

-- whether something that is kept of what a unit read is touched, as a tree tells; of a stale unit nothing is kept
abbrev pub keeps_touched : Table → (Cell → Bool) → Option Recorded → Bool
keeps_touched T touched None = false
keeps_touched T touched (Some held) = holds_touched T touched held

pub record StaleAfterEdit : Type 0 where
  -- after an edit a unit is stale where it was so before, or something that is kept of what it read is touched
  pub touched : (T : Table) (touched : Cell → Bool) (old new : Kept) (unit : ValidationUnit) → Marks T touched old new →
      is_stale new unit ≡ (is_stale old unit || keeps_touched T touched (old.reads unit))
  -- or where it is new: a node that the edit brought is stale under each pattern
  pub new : (plan : Plan) (T : Table) (touched : Cell → Bool) (old new : Kept) (p n : ℕ) → Keeps plan T old → Marks T touched old new →
      length T ≤ n → is_stale new (under p n) ≡ true
