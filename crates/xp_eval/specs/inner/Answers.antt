-- Answers of calls that are handed on as answers of another kind.
use Rattle.std.specs.Prelude.{Result, Ok, Err}
use Rattle.xp_values.specs.declared.values.EvalError.{EvalError}

-- a part of what was computed; an error stays
abbrev pub answer_as : {A B : Type 0} → (A → B) → Result A EvalError → Result B EvalError
answer_as part (Ok v) = Ok (part v)
answer_as part (Err e) = Err e
