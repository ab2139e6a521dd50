-- How expressions are copied.
use Rattle.std.specs.Prelude.{ℕ, List, Option, None, Some}
use Rattle.sch_model.specs.declared.raw.Param.{Param}
use Rattle.sch_expansion.specs.Filled.{filled}

-- a text as it is, or with parameters replaced
abbrev pub change_of : Option (List Param) → List ℕ → List ℕ
change_of None text = text
change_of (Some params) text = filled params text
