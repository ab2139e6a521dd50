-- A unit whose reads no edit touched reads the same after each, so what is held of them and what it read is touched alike.
use Rattle.kept_state.specs.Laws.{DirtyAreRun}
use Rattle.kept_state.proofs.DirtyLemmas as lemma
use Rattle.kept_state.proofs.UnitListLemmas.{dirty_units_are_run}
use Rattle.kept_state.proofs.laws.dirty_are_run.Goals as goal

pub returns : goal.returns
returns c =
    let each : DirtyAreRun =
    lemma.dirty_are_run c.units_are_local.ensures.given c.units_stand.ensures.change c.edits_touch_held_alike.ensures
    c.held_stays_alike.ensures.held c.reads_are_touched.ensures c.units_read_live_cells.ensures.reads
    c.lets_need_those_before.ensures c.same_outcomes_are_equal.ensures c.lets_stand_in_order.ensures in
    record { each = each; all = dirty_units_are_run each }
