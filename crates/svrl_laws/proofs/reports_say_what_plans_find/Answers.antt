-- What a plan finds is some outcomes.
use Rattle.svrl_laws.specs.ReadBack.{outcomes_of}
use Rattle.svrl_laws.proofs.reports_say_what_plans_find.Goals as goal

pub returns : goal.returns
returns c = λ plan T U whole good scoped. c.reports_say_what_was_found.ensures plan T U (outcomes_of plan T) good scoped
