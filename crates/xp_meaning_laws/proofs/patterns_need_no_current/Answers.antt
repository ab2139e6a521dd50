use Rattle.xp_meaning_laws.proofs.Current.{patterns_need_no_current, steps_need_no_current}
use Rattle.xp_meaning_laws.proofs.patterns_need_no_current.Goals as goal

pub returns-clause-expressions : goal.returns-clause-expressions
returns-clause-expressions c = patterns_need_no_current

pub returns-clause-steps : goal.returns-clause-steps
returns-clause-steps c = steps_need_no_current
