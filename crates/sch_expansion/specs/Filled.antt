-- Texts of an instance: the parameters of its abstract pattern replaced (ISO/IEC 19757-3, section 5.4.8).
use Rattle.std.specs.Prelude.{ℕ, zero, suc, ◌==◌, Bool, List, [], ◌∷◌, ◌++◌, Option, None, Some, chars, encode_utf8, encode_utf8_all, length, if◌then◌else◌}
use Rattle.std.specs.Str.{bytes_eq}
use Rattle.sch_model.specs.declared.raw.Param.{Param}
use Rattle.sch_texts.specs.Names.{longest_name}

-- the value of the parameter with this name
abbrev pub value_of : List Param → List ℕ → Option (List ℕ)
value_of [] name = None
value_of (param ∷ params) name = if bytes_eq name param.name then Some param.value else value_of params name

abbrev pub is_dollar : ℕ → Bool
is_dollar c = c == 36

-- a `$` by the value of the name that follows it: the `$` stays before the rest, or the value stands for both before what is
-- after the name
abbrev pub dollar_filled : Option (List ℕ) → List ℕ → List ℕ → List ℕ
dollar_filled None rest after_name = 36 ∷ rest
dollar_filled (Some value) rest after_name = value ++ after_name

-- characters with each `$` and parameter name replaced by the parameter's value, which is not read again; so many characters in
-- front are those of a name that was replaced
abbrev pub filled_after : List Param → ℕ → List ℕ → List ℕ
filled_after params passed [] = []
filled_after params (suc passed) (c ∷ characters) = filled_after params passed characters
filled_after params zero (c ∷ characters) =
    if is_dollar c
    then dollar_filled (value_of params (encode_utf8_all (longest_name characters)))
    (filled_after params zero characters) (filled_after params (length (longest_name characters)) characters)
    else encode_utf8 c ++ filled_after params zero characters

-- a text with its parameters replaced
abbrev pub filled : List Param → List ℕ → List ℕ
filled params text = filled_after params zero (chars text)
