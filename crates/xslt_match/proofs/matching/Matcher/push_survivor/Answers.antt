use Rattle.xp_outcome.proofs.Runs.{ran_bind, ran_late, ran_stop}
use Rattle.xp_meaning.proofs.Exits.{ran_done_at}
use Rattle.xp_values.specs.declared.values.EvalError.TheVariants.{Memory}
use Rattle.xslt_match.proofs.Gathered.{exit_list}
use Rattle.xslt_match.proofs.matching.Matcher.push_survivor.Goals as goal

pub returns-in_err-stays-clause-ran : goal.returns-in_err-stays-clause-ran
returns-in_err-stays-clause-ran g c = exit_list _ c.from_residual.result _ c.from_residual.ensures.1 (ran_stop _ _ c.in_err-stays.ensures.ran)

pub returns-in_err-push_if-clause-ran : goal.returns-in_err-push_if-clause-ran
returns-in_err-push_if-clause-ran g c =
    exit_list _ c.from_residual-in_err-push_if.result Memory c.from_residual-in_err-push_if.ensures.1 (ran_bind _ c.in_ok-stays.ensures.ran (ran_late _ _ _))

pub returns-clause-ran : goal.returns-clause-ran
returns-clause-ran g c = ran_bind _ c.in_ok-stays.ensures.ran (ran_done_at _ _ _ c.in_ok-push_if.ensures.pushed)
