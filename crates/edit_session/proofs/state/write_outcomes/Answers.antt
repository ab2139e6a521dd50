-- The nodes that are told of are at hand.
use Rattle.std.proofs.Common.{subst, sym}
use Rattle.sch_compiled.specs.Findings.{ToldInOrder}
use Rattle.edit_session.proofs.state.write_outcomes.Goals as goal

pub came_to_among-evaluated-requires-clause-told : goal.came_to_among-evaluated-requires-clause-told
came_to_among-evaluated-requires-clause-told g c =
    subst (ToldInOrder c.args.tree.now.nodes c.args.found.now) (sym c.as_slice-nodes.ensures) c.in_ok-nodes.ensures

pub write_evaluated-requires-clause-told : goal.write_evaluated-requires-clause-told
write_evaluated-requires-clause-told g c =
    subst (ToldInOrder c.args.tree.now.nodes c.args.found.now) (sym c.as_slice-nodes.ensures) c.in_ok-nodes.ensures
