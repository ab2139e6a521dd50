-- Units and edits: what no edit touched of all that a unit read leaves the unit as it was (ISO/IEC 19757-3, clause 6).
use Rattle.std.specs.Prelude.{◌≡◌, ℕ, Bool, take}
use Rattle.std.specs.List.{AllByRecursion as Each}
use Rattle.doc_tree.specs.cell.Cell.{Cell}
use Rattle.doc_tree.specs.Laws.{WellFormed}
use Rattle.doc_tree.specs.Table.{Table}
use Rattle.doc_edit_laws.specs.Agreement.{Stays}
use Rattle.doc_edit_laws.specs.Along.{Edits}
use Rattle.xp_typed_tree.specs.TypedTree.{TypedTree}
use Rattle.xp_locality_laws.specs.Locality.{Changed}
use Rattle.sch_compiled.specs.declared.plan.Plan.{Plan}
use Rattle.sch_units.specs.Units.{lets_of, unit_let, unit_pair}
use Rattle.sch_locality_laws.specs.Locality.{RulesTyped, Unchanged}

-- edits make of a tree one that has changed as the laws of locality ask, so that these hold, under given lets too
abbrev pub EditsChange : Type 0
EditsChange = (T U : Table) (touched : Cell → Bool) → WellFormed T → Edits T U touched → Changed T U touched

-- under the lets in force of each tree
pub record UnitsStand : Type 0 where
  pub lets : (plan : Plan) (T U : Table) (touched : Cell → Bool) (count : ℕ) (expr : TypedTree) → WellFormed T → Edits T U touched →
      Each (Unchanged plan T U touched) (unit_let T (take count (lets_of plan T)) expr).reads →
      unit_let U (take count (lets_of plan U)) expr ≡ unit_let T (take count (lets_of plan T)) expr
  pub pairs : (plan : Plan) (T U : Table) (touched : Cell → Bool) (p n : ℕ) → WellFormed T → Edits T U touched → RulesTyped plan p → Stays T U n →
      Each (Unchanged plan T U touched) (unit_pair plan T (lets_of plan T) p n).reads →
      unit_pair plan U (lets_of plan U) p n ≡ unit_pair plan T (lets_of plan T) p n
