use Rattle.xp_types.proofs.OneAnswer.{typed-or-refused, no-fault, one-type, one-first}
use Rattle.xp_types.proofs.laws.expressions_are_typed_or_refused.Goals as goal

pub returns-clause-each : goal.returns-clause-each
returns-clause-each c = typed-or-refused

pub returns-clause-never_both : goal.returns-clause-never_both
returns-clause-never_both c = no-fault

pub returns-clause-one_tree : goal.returns-clause-one_tree
returns-clause-one_tree c = one-type

pub returns-clause-one_first_fault : goal.returns-clause-one_first_fault
returns-clause-one_first_fault c = one-first
