-- Expressions, steps and predicates stand where what they read was kept.
use Rattle.xp_locality_laws.proofs.MeaningLemmas.{locals, same-all_true, same-meaning}
use Rattle.xp_locality_laws.proofs.PathLemmas.{same-step_at}
use Rattle.xp_meaning.specs.Evaluation.{meanings}
use Rattle.xp_locality_laws.proofs.evaluations_are_local.Goals as goal

pub returns-clause-expressions : goal.returns-clause-expressions
returns-clause-expressions c T U touched L M t at changed stays = (same-meaning T U touched L M changed t at stays).go

pub returns-clause-steps : goal.returns-clause-steps
returns-clause-steps c T U touched L M axis node_test predicates current n changed here stays =
    (same-step_at T U touched L M changed axis node_test (meanings T L predicates) (meanings U M predicates) (locals T U touched L M changed predicates) current n here stays).go

pub returns-clause-predicates : goal.returns-clause-predicates
returns-clause-predicates c T U touched L M predicates at changed stays =
    (same-all_true T U touched L M changed (meanings T L predicates) (meanings U M predicates) at (locals T U touched L M changed predicates) stays).go
