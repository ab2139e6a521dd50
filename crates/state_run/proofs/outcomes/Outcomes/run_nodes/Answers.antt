-- Nothing is kept of a pattern's rules at first.
use Rattle.sch_compiled.specs.Plan.{rules_of}
use Rattle.state_run.proofs.outcomes.Outcomes.run_nodes.Goals as goal

pub run_numbers-done-requires-clause-matches : goal.run_numbers-done-requires-clause-matches
run_numbers-done-requires-clause-matches g c =
    c.new-matches.ensures c.args.at.now.run.caller.tree.now c.args.self.now.lets (rules_of c.args.at.now.run.plan.now c.args.at.now.pattern)
