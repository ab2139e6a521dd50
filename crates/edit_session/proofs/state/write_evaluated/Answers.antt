-- What was evaluated can be written, and what was written is the state.
use Rattle.edit_session.proofs.StateLemmas.{fault_is_of, fault_wrote, reportable, whole_wrote}
use Rattle.edit_session.proofs.state.write_evaluated.Goals as goal

pub write_report_among-written-requires-clause-reportable : goal.write_report_among-written-requires-clause-reportable
write_report_among-written-requires-clause-reportable g c =
    let whole = rw c.in-Whole.is at c.requires.evaluated in
    reportable c.args.plan.now c.args.tree.now.nodes _ c.first_match_fires.ensures c.units_read_live_cells.ensures.findings c.laws.ensures.ordered c.laws.ensures.ways_up whole.0 c.requires.found

pub write_fault-written-requires : goal.write_fault-written-requires
write_fault-written-requires g c =
    let first = rw c.in-Faulted.is at c.requires.evaluated in
    fault_is_of c.args.plan.now c.args.tree.now.nodes _ c.lets_stand_in_order.ensures c.laws.ensures.ordered first

pub returns-in-Whole : goal.returns-in-Whole
returns-in-Whole g c =
    let whole = rw c.in-Whole.is at c.requires.evaluated in
    whole_wrote c.args.plan.now c.args.tree.now.nodes c.args.told.found.now c.in-Whole.finds _ _ c.write_report_among-written.result c.end_of.result whole.0 whole.1 c.requires.found
    c.write_report_among-written.ensures (rw c.shown_of.ensures at c.end_of.ensures)

pub returns-in-Faulted : goal.returns-in-Faulted
returns-in-Faulted g c =
    let first = rw c.in-Faulted.is at c.requires.evaluated in
    fault_wrote c.args.plan.now c.args.tree.now.nodes c.in-Faulted.fault _ _ c.write_fault-written.result c.end_of-in-Faulted.result first
    c.write_fault-written.ensures c.end_of-in-Faulted.ensures
