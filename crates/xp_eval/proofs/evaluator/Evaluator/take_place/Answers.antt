-- The step's visits, and those of the predicate at each candidate.
use Rattle.std.specs.Option.{option_to_list}
use Rattle.xp_outcome.specs.Running.{no_memory}
use Rattle.xp_outcome.proofs.Runs.{ran_bind, ran_stop}
use Rattle.xp_meaning.specs.Paths.{kept}
use Rattle.xp_meaning.proofs.Exits.{exit_memory}
use Rattle.xp_eval.proofs.Places.{counted-ends, counted-late}
use Rattle.xp_eval.proofs.evaluator.Evaluator.take_place.Goals as goal

pub returns-in_err-look_over : goal.returns-in_err-look_over
returns-in_err-look_over g c = λ predicate current keeps.
    exit_memory _ c.from_residual.ensures.1 (ran_stop (λ ms. kept predicate current ms) no_memory c.in_err-look_over.ensures)

pub returns-in_err-one_or_none : goal.returns-in_err-one_or_none
returns-in_err-one_or_none g c = λ predicate current keeps.
    exit_memory _ c.from_residual-in_err-one_or_none.ensures.1
    (ran_bind (λ ms. kept predicate current ms) c.in_ok-look_over.ensures (counted-late (option_to_list c.args.placed.node) c.args.placed.passing c.look_over.new.reads keeps c.tick_times.ensures))

pub returns : goal.returns
returns g c = λ predicate current keeps.
    ran_bind (λ ms. kept predicate current ms) c.in_ok-look_over.ensures
    (counted-ends c.args.placed.passing c.look_over.new.reads keeps c.in_ok-one_or_none.ensures c.tick_times.ensures)
