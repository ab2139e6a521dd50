use Rattle.sch_compiled.specs.Plan.{rules_of}
use Rattle.rule_run.proofs.pairing.run_pair.Goals as goal

pub run_pair_with-requires-clause-kept : goal.run_pair_with-requires-clause-kept
run_pair_with-requires-clause-kept g c = c.new-kept.ensures c.args.tree.now c.args.lets.now (rules_of c.args.plan.now c.args.p)
