-- By what edits leave of units, since what a clean unit read is unchanged.
use Rattle.std.proofs.Common.{◌≡◌, ℕ, Bool, true, false, not, ◌||◌, take, Some, subst}
use Rattle.std.specs.Prelude.{slice_get}
use Rattle.std.specs.List.{list_any}
use Rattle.std.proofs.lemmas.Bool.{not-false}
use Rattle.doc_tree.specs.cell.Cell.{Cell}
use Rattle.doc_tree.specs.Table.{Table, is_live}
use Rattle.doc_tree.specs.Laws.{WellFormed}
use Rattle.doc_edit_laws.specs.Along.{Edits}
use Rattle.sch_compiled.specs.declared.parts.LetInForce.{LetInForce}
use Rattle.sch_compiled.specs.declared.plan.Plan.{Plan}
use Rattle.sch_locality_laws.specs.Units.{lets_of, unit_let, unit_pair}
use Rattle.sch_locality_laws.specs.Locality.{RulesTyped}
use Rattle.sch_locality_laws.specs.Edits.{UnitsStand}
use Rattle.edit_costs.specs.Dirty.{is_changed, is_dirty, is_touched}
use Rattle.edit_costs.specs.Units.{in_force, let_reads, under}
use Rattle.edit_costs.proofs.CleanLemmas.{both, neither, unchanged-reads}
use Rattle.edit_costs.proofs.clean_units_stand.Goals as goal

module _ (stand : UnitsStand) (plan : Plan) (T U : Table) (touched : Cell → Bool) (formed : WellFormed T) (edits : Edits T U touched) where
  let-stands : (slot : ℕ) (t : LetInForce) → slice_get plan.lets slot ≡ Some t → is_dirty plan T U touched (in_force slot) ≡ false →
      unit_let U (take slot (lets_of plan U)) t.expr ≡ unit_let T (take slot (lets_of plan T)) t.expr
  let-stands slot t there clean =
      let L = take slot (lets_of plan T) in
      let unread = subst (λ found. list_any (λ r. is_touched T touched r || is_changed plan T U r) (let_reads T L found) ≡ false) there clean in
      stand.lets plan T U touched slot t.expr formed edits (unchanged-reads plan T U touched (unit_let T L t.expr).reads unread)

  pair-stands : (p n : ℕ) → RulesTyped plan p → is_live U n ≡ true → is_dirty plan T U touched (under p n) ≡ false →
      unit_pair plan U (lets_of plan U) p n ≡ unit_pair plan T (lets_of plan T) p n
  pair-stands p n typed lives clean =
      let reads = (unit_pair plan T (lets_of plan T) p n).reads in
      let parts = neither (not (is_live T n)) (list_any (λ r. is_touched T touched r || is_changed plan T U r) reads) clean in
      stand.pairs plan T U touched p n formed edits typed (both (is_live T n) (is_live U n) (not-false (is_live T n) parts.0) lives)
      (unchanged-reads plan T U touched reads parts.1)

pub returns : goal.returns
returns c = record {
  lets = λ plan T U touched slot t formed edits there clean. let-stands c.units_stand.ensures.units plan T U touched formed edits slot t there clean;
  pairs = λ plan T U touched p n formed edits typed lives clean. pair-stands c.units_stand.ensures.units plan T U touched formed edits p n typed lives
      clean;
}
