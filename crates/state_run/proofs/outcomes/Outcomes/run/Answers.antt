-- Under all patterns each live node has its outcome.
use Rattle.std.proofs.Common.{length, arith}
use Rattle.state_run.proofs.NodeLemmas.{holds_all}
use Rattle.state_run.proofs.outcomes.Outcomes.run.Goals as goal

pub returns-clause-found : goal.returns-clause-found
returns-clause-found g c =
    holds_all c.args.run.now.plan.now c.args.run.now.caller.tree.now.nodes (length c.args.run.now.plan.now.patterns) c.run_patterns.new.self.found
    c.laws.ensures.ordered (omega arith)
    c.in_ok-run_patterns.ensures.found
