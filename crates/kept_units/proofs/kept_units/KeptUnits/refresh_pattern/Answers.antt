-- Nothing is kept of the pattern's rules yet.
use Rattle.sch_compiled.specs.Plan.{rules_of}
use Rattle.kept_units.proofs.kept_units.KeptUnits.refresh_pattern.Goals as goal

pub refresh_nodes-ended-requires-clause-matches : goal.refresh_nodes-ended-requires-clause-matches
refresh_nodes-ended-requires-clause-matches g c =
    c.new-matches.ensures c.args.at.now.run.caller.tree.now c.args.self.now.lets (rules_of c.args.at.now.run.plan.now c.args.at.now.pattern)
