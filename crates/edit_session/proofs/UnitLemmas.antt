-- Which units are stale after an edit, and which are to be run where nothing is kept.
use Rattle.std.proofs.Common.{◌≡◌, ◌∙◌, Bool, true, false, ◌||◌, List, [], ◌∷◌, cond, Option, None, Some, is_none, if◌then◌else◌, refl, ap}
use Rattle.std.specs.Prelude.{filter}
use Rattle.doc_tree.specs.cell.Cell.{Cell}
use Rattle.doc_tree.specs.Table.{Table}
use Rattle.xp_outcome.specs.Recorded.{Recorded}
use Rattle.sch_compiled.specs.declared.plan.Plan.{Plan}
use Rattle.sch_units.specs.Units.{lets_of}
use Rattle.kept_units.specs.Units.{ValidationUnit, under, units_of}
use Rattle.cover_laws.specs.Covering.{holds_touched}
use Rattle.kept_units.specs.Kept.{Kept}
use Rattle.kept_units.specs.Running.{is_run, to_run}
use Rattle.kept_units.specs.Steps.{differs, unless_changed, unless_touched}
use Rattle.edit_session.specs.Laws.{StaleAfterEdit, keeps_touched}

-- what something touched is among is stale
stale-touched : (T : Table) (touched : Cell → Bool) (entry : Option Recorded) →
    is_none (unless_touched T touched entry) ≡ (is_none entry || keeps_touched T touched entry)
stale-touched T touched None = refl
stale-touched T touched (Some held) = by (holds_touched T touched held)
  where
    by : (b : Bool) → is_none (if b then None else Some held) ≡ b
    by true = refl
    by false = refl

pub stale-after : StaleAfterEdit
stale-after = record {
  touched = λ T touched old new unit marks. ap is_none (marks.reads unit) ∙ stale-touched T touched (old.reads unit);
  new = λ plan T touched old new p n keeps marks past.
      ap is_none (marks.reads (under p n) ∙ ap (unless_touched T touched) (keeps.new p n past));
}

-- all units are to be run where nothing is kept
all-run : (plan : Plan) (T : Table) (kept : Kept) → ((unit : ValidationUnit) → kept.reads unit ≡ None) → (units : List ValidationUnit) → filter (is_run plan T kept) units ≡ units
all-run plan T kept none [] = refl
all-run plan T kept none (unit ∷ units) =
    ap (λ (entry : Option Recorded). cond (is_none (unless_changed (differs kept.lets (lets_of plan T)) entry)) (unit ∷ filter (is_run plan T kept) units) (filter (is_run plan T kept) units)) (none unit)
    ∙ ap (λ rest. unit ∷ rest) (all-run plan T kept none units)

pub runs-all : (plan : Plan) (T : Table) (kept : Kept) → ((unit : ValidationUnit) → kept.reads unit ≡ None) → to_run plan T kept ≡ units_of plan T
runs-all plan T kept none = all-run plan T kept none (units_of plan T)
