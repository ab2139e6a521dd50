-- By what edits leave, and the locality of units.
use Rattle.sch_locality_laws.specs.Edits.{EditsChange}
use Rattle.doc_edit_laws.specs.Along.{EditsLeave}
use Rattle.sch_locality_laws.proofs.units_stand.Goals as goal

edits-change : EditsLeave → EditsChange
edits-change leave T U touched t edits = let left = leave T U touched t edits in record { before = left.before; after = left.after; agree = left.agree }

pub returns-clause-change : goal.returns-clause-change
returns-clause-change c = edits-change c.edits_leave_the_rest.ensures

pub returns-clause-units : goal.returns-clause-units
returns-clause-units c = record {
  lets = λ plan T U touched count expr t edits. c.units_are_local.ensures.own.lets plan T U touched count expr (edits-change c.edits_leave_the_rest.ensures T U touched t edits);
  pairs = λ plan T U touched p n t edits. c.units_are_local.ensures.own.pairs plan T U touched p n (edits-change c.edits_leave_the_rest.ensures T U touched t edits);
}
