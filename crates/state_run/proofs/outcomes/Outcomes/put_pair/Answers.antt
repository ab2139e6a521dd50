-- All lets have their slots.
use Rattle.std.proofs.Common.{ap, arith, length}
use Rattle.state_run.proofs.outcomes.Outcomes.put_pair.Goals as goal

pub outcome_of_pair-requires-clause-room : goal.outcome_of_pair-requires-clause-room
outcome_of_pair-requires-clause-room g c =
    omega (arith, ap length c.requires.lets, c.lets_stand_in_order.ensures.count c.args.at.now.run.plan.now c.args.at.now.run.caller.tree.now.nodes)
