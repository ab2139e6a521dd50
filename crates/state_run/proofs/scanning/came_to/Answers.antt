-- The nodes that are handed on are those of which something is told.
use Rattle.std.proofs.Common.{subst, sym}
use Rattle.sch_compiled.specs.Findings.{ToldInOrder}
use Rattle.state_run.proofs.scanning.came_to.Goals as goal

pub came_to_among-requires-clause-told : goal.came_to_among-requires-clause-told
came_to_among-requires-clause-told c = subst (ToldInOrder c.args.tree.now.nodes c.args.found.now) (sym c.as_slice.ensures) c.in_ok-nodes.ensures
