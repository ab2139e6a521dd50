use Rattle.sch_plan.proofs.walker.Walker.one_rule.Goals as goal

pub returns-in-Ok-clause-compiled : goal.returns-in-Ok-clause-compiled
returns-in-Ok-clause-compiled c = rw c.as_str.ensures at (c.in-Ok.ensures.compiled c.args.rule.id c.args.rule.role c.args.rule.flag)

pub returns-in-Err-clause-compiled : goal.returns-in-Err-clause-compiled
returns-in-Err-clause-compiled c = rw c.as_str.ensures at (c.in-Err.ensures.compiled c.args.rule.id c.args.rule.role c.args.rule.flag)
