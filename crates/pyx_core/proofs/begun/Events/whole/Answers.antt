use Rattle.std.specs.Option.{option_to_list}
use Rattle.std.proofs.lemmas.Result.{MatchResult-from_err}
use Rattle.pyx_core.specs.Before.{located}
use Rattle.std.proofs.Common.{◌∷◌, []}
use Rattle.pyx_core.proofs.BegunLemmas.{front_longer, goes_put}
use Rattle.pyx_core.proofs.begun.Events.whole.Goals as goal

pub returns-in_err-complete : goal.returns-in_err-complete
returns-in_err-complete c = λ taken done begun tells.
    MatchResult-from_err c.from_residual.result _ _ c.from_residual.ensures.0
    (λ _. front_longer _ done (option_to_list begun) (located c.args.line c.args.event ∷ []) (c.in_err-complete.ensures taken done begun tells))

pub returns : goal.returns
returns c = λ taken done begun tells.
    let told = c.in_ok-complete.ensures taken done begun tells in
    goes_put c.complete.new.self _ taken done (option_to_list begun) _ c.put.result told told.begun_is c.put.ensures
