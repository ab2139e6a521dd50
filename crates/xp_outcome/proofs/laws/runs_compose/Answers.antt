use Rattle.xp_outcome.proofs.Runs.{ran_done, ran_bind, ran_stop, ran_visit, ran_reading}
use Rattle.xp_outcome.proofs.laws.runs_compose.Goals as goal

pub returns : goal.returns
returns g c = record {
  nothing = ran_done;
  then = λ m next v r held between now before mid after first rest. ran_bind next first rest;
  stopped = λ m next e held now before after h. ran_stop next e h;
  visited = λ m r held now before after h. ran_visit h;
  recorded = λ x m r held now before after h. ran_reading x h;
}
