-- What edits, and runs of single units, make of what is kept.
use Rattle.std.specs.Prelude.{◌≡◌, ◌≢◌, ℕ, ◌<◌, ◌≤◌, Bool, true, not, length, Option, None, Some, if◌then◌else◌, slice_get}
use Rattle.std.specs.FinSet.{items}
use Rattle.std.specs.List.{list_any}
use Rattle.doc_tree.specs.cell.Cell.{Cell}
use Rattle.doc_tree.specs.Table.{Table, is_live}
use Rattle.xp_outcome.specs.Recorded.{Recorded}
use Rattle.xp_outcome.specs.Slots.{in_slot}
use Rattle.xp_meaning.specs.Evaluation.{Lets}
use Rattle.sch_compiled.specs.declared.plan.Plan.{Plan}
use Rattle.edit_costs.specs.SameOutcome.{same_outcome}
use Rattle.edit_costs.specs.Units.{ValidationUnit, in_force, under}
use Rattle.cover_laws.specs.Covering.{HeldAlike, holds_touched}
use Rattle.kept_state.specs.Kept.{Kept, LetsPass, Stands, let_gives, noted, reads_under}

-- what is kept of a unit, once cells of a tree were touched
abbrev pub unless_touched : Table → (Cell → Bool) → Option Recorded → Option Recorded
unless_touched T touched None = None
unless_touched T touched (Some held) = if holds_touched T touched held then None else Some held

-- what is kept of a unit that read some lets, once lets have changed
abbrev pub unless_changed : (ℕ → Bool) → Option Recorded → Option Recorded
unless_changed changed None = None
unless_changed changed (Some held) = if list_any changed (items held.lets) then None else Some held

-- whether the outcome in a slot differs
abbrev pub differs : Lets → Lets → ℕ → Bool
differs L M slot = not (same_outcome (in_slot L slot) (in_slot M slot))

-- the outcome that is kept of a unit is the same as before
abbrev pub SameGiven : Kept → Kept → ValidationUnit → Type 0
SameGiven old new (in_force slot) = in_slot new.lets slot ≡ in_slot old.lets slot
SameGiven old new (under p n) = new.outcomes p n ≡ old.outcomes p n

-- all that is kept of a unit is the same as before
pub record StaysAs (old new : Kept) (unit : ValidationUnit) : Type 0 where
  pub given : SameGiven old new unit
  pub reads : new.reads unit ≡ old.reads unit

-- the units that read what was touched of a tree are stale, and nothing else changes
pub record Marks (T : Table) (touched : Cell → Bool) (old new : Kept) : Type 0 where
  pub lets : new.lets ≡ old.lets
  pub outcomes : (p n : ℕ) → new.outcomes p n ≡ old.outcomes p n
  pub reads : (unit : ValidationUnit) → new.reads unit ≡ unless_touched T touched (old.reads unit)

-- a let in force was run: it has its outcome under the kept lets, and what it read is kept, or it is stale; those that read a let whose
-- outcome has changed are stale, and nothing else changes
pub record RunsLet (plan : Plan) (T : Table) (l : ℕ) (old new : Kept) : Type 0 where
  pub few : length new.lets ≤ length plan.lets
  pub outcome : in_slot new.lets l ≡ let_gives T old.lets (slice_get plan.lets l)
  pub others : (slot : ℕ) → slot ≢ l → in_slot new.lets slot ≡ in_slot old.lets slot
  pub outcomes : (p n : ℕ) → new.outcomes p n ≡ old.outcomes p n
  pub read : (held : Recorded) → new.reads (in_force l) ≡ Some held → HeldAlike T held (noted (reads_under plan T old.lets (in_force l)))
  pub reads : (unit : ValidationUnit) → unit ≢ in_force l → new.reads unit ≡ unless_changed (differs old.lets new.lets) (old.reads unit)

-- a node under a pattern was run: what it gave and read under the kept lets is kept, or it is stale; nothing else changes
pub record RunsPair (plan : Plan) (T : Table) (p n : ℕ) (old new : Kept) : Type 0 where
  pub lets : new.lets ≡ old.lets
  pub stands : (held : Recorded) → new.reads (under p n) ≡ Some held → Stands plan T new (under p n) held
  pub others : (unit : ValidationUnit) → unit ≢ under p n → StaysAs old new unit

-- the nodes of the lets below a slot live
abbrev pub LiveBelow : Table → Lets → ℕ → Type 0
LiveBelow T L l = (slot : ℕ) → slot < l → LetsPass (λ n. is_live T n ≡ true) L slot
