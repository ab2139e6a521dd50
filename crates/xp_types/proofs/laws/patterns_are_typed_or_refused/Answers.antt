use Rattle.xp_types.proofs.OneAnswer.{pattern-typed-or-refused, pattern-no-fault, pattern-one-type, pattern-one-first}
use Rattle.xp_types.proofs.laws.patterns_are_typed_or_refused.Goals as goal

pub returns-clause-each : goal.returns-clause-each
returns-clause-each c = pattern-typed-or-refused

pub returns-clause-never_both : goal.returns-clause-never_both
returns-clause-never_both c = pattern-no-fault

pub returns-clause-one_tree : goal.returns-clause-one_tree
returns-clause-one_tree c = pattern-one-type

pub returns-clause-one_first_fault : goal.returns-clause-one_first_fault
returns-clause-one_first_fault c = pattern-one-first
