-- What is counted is counted of the document, and costs the visits of what was stale.
use Rattle.sch_commands.proofs.MeasureLemmas.{measured-as, rose-counting}
use Rattle.sch_commands.proofs.SessionLemmas.{evaluated-as}
use Rattle.sch_commands.proofs.measuring.measure_state.Goals as goal

pub returns-clause-fresh : goal.returns-clause-fresh
returns-clause-fresh g c = evaluated-as c.args.session.now c.counts.new.self c.in_ok-counts.ensures.plan c.in_ok-counts.ensures.tree c.in_ok-counts.ensures.fresh

pub returns-clause-measured : goal.returns-clause-measured
returns-clause-measured g c =
    measured-as c.args.session.now.plan c.args.session.now.tree.nodes _ c.in_ok-counts.counts (rw c.tree.ensures at c.live_nodes-nodes.ensures) c.in_ok-counts.ensures.counted

pub returns-clause-rose : goal.returns-clause-rose
returns-clause-rose g c = rose-counting c.args.session.now _ _ c.in_ok-counts.counts c.in_ok-counts.ensures.counted c.in_ok-counts.ensures.at_most c.in_ok-counts.ensures.exactly
