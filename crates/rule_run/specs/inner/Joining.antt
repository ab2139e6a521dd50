-- Texts that grow at their end.
use Rattle.std.specs.Prelude.{ℕ, List, Result, Ok, Err}
use Rattle.xp_values.specs.declared.values.EvalError.{EvalError}

-- the text that a call left, where it has no error
abbrev pub with_text : Result (Unit {0}) EvalError → List ℕ → Result (List ℕ) EvalError
with_text (Ok done) text = Ok text
with_text (Err e) text = Err e
