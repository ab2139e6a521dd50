-- One event more was written, or the writing stopped at it.
use Rattle.sch_commands.proofs.EventLemmas.{wrote_cut, wrote_next}
use Rattle.sch_commands.proofs.expansion.write_events.Goals as goal

pub returns-in_err-write_event : goal.returns-in_err-write_event
returns-in_err-write_event g c =
    wrote_cut c.args.events.now c.loop-event.event-index c.event-item.result c.from_residual.result c.from_residual.ensures.0
    c.event-item.is c.loop-event-test.true c.loop-event.invariant c.in_err-write_event.ensures

pub loop-event-preserved : goal.loop-event-preserved
loop-event-preserved g c =
    wrote_next c.args.events.now c.loop-event.event-index c.event-item.result c.event-item.is c.loop-event-test.true
    c.loop-event.invariant c.in_ok-write_event.ensures
