use Rattle.rule_run.proofs.kept_matches.KeptMatches.class_rules.Goals as goal

pub returns-in_err-reach_classes-clause-kept : goal.returns-in_err-reach_classes-clause-kept
returns-in_err-reach_classes-clause-kept c = λ L kept. c.in_err-reach_classes.ensures.kept c.args.tree.now L c.args.rules.now kept

pub returns-clause-known : goal.returns-clause-known
returns-clause-known c = λ L kept. c.known_class.ensures.known L (c.in_ok-reach_classes.ensures.kept c.args.tree.now L c.args.rules.now kept)

pub returns-clause-kept : goal.returns-clause-kept
returns-clause-kept c = λ L kept. c.known_class.ensures.kept L (c.in_ok-reach_classes.ensures.kept c.args.tree.now L c.args.rules.now kept)
