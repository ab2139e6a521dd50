-- What a location path has come to.
use Rattle.std.specs.Prelude.{ℕ, List, [], ◌∷◌, Result, Ok, Err}
use Rattle.xp_outcome.specs.Running.{Stop}
use Rattle.xp_values.specs.declared.values.EvalFault.{EvalFault}
use Rattle.xp_values.specs.declared.values.EvalError.{EvalError}
use Rattle.xp_meaning.specs.Results.{stop_of}
use Rattle.xp_eval.specs.declared.reached.Reached.{Reached}
use Rattle.xp_eval.specs.declared.reached.Reached.TheVariants.{One, Set}

-- its nodes
abbrev pub nodes_reached : Reached → List ℕ
nodes_reached (One n) = n ∷ []
nodes_reached (Set ns) = ns

-- the end of a run that answers with them
abbrev pub shown_reached : Result Reached EvalError → Result (List ℕ) (Stop EvalFault)
shown_reached (Ok r) = Ok (nodes_reached r)
shown_reached (Err e) = Err (stop_of e)
