-- A text whose parameters are replaced is made of Chars, where it and their values are.
use Rattle.std.proofs.Common.{◌≡◌, ℕ, zero, suc, Bool, true, false, cond, List, [], ◌∷◌, ◌++◌, Option, None, Some, length, refl, subst, append-nil}
use Rattle.std.specs.List.{list_all}
use Rattle.std.specs.Prelude.{chars, codes, encode_utf8, encode_utf8_all}
use Rattle.std.specs.Str.{bytes_eq, is_utf8}
use Rattle.std.proofs.lemmas.Bool.{and_from, and_parts}
use Rattle.std.proofs.lemmas.Str.{scalars-chars}
use Rattle.pyx_core.proofs.TextLemmas.{of_chars_append, utf8_of}
use Rattle.sch_base.specs.Characters.{is_xml_char}
use Rattle.sch_model.specs.declared.raw.Param.{Param}
use Rattle.sch_expansion.specs.Filled.{dollar_filled, filled, filled_after, is_dollar, value_of}
use Rattle.sch_texts.specs.Names.{longest_name}
use Rattle.sch_flat_laws.specs.Readable.{Each}
use Rattle.sch_flat_laws.proofs.Rules.MadeTexts.{GoodPiece, Made, MadeIfAny, all-good, is-good, made-ascii, made-encoded, made_nil}

abbrev pub MadeParam : Param → Type 0
MadeParam param = Made param.value

made-dollar : Made (codes "$")
unfolding is_xml_char
made-dollar = made-ascii (codes "$") refl refl

value-made : (params : List Param) (name : List ℕ) → Each MadeParam params → MadeIfAny (value_of params name)
value-made [] name h = tt
value-made (param ∷ params) name h = by (bytes_eq name param.name) (value-made params name h.1)
  where
    by : (b : Bool) → MadeIfAny (value_of params name) → MadeIfAny (cond b (Some param.value) (value_of params name))
    by true rest = h.0
    by false rest = rest

made-one : (c : ℕ) → is-good c ≡ true → Made (encode_utf8 c)
made-one c h = subst Made (append-nil (encode_utf8 c)) (made-encoded (c ∷ []) (and_from (is-good c) true h refl))

dollar-made : (value : Option (List ℕ)) (rest after : List ℕ) → MadeIfAny value → Made rest → Made after → Made (dollar_filled value rest after)
dollar-made None rest after h k l = of_chars_append (codes "$") rest made-dollar k
dollar-made (Some value) rest after h k l = of_chars_append value after h l

after-made : (params : List Param) → Each MadeParam params → (passed : ℕ) (cs : List ℕ) → GoodPiece cs → Made (filled_after params passed cs)
after-made params h passed [] good = made_nil
after-made params h (suc passed) (c ∷ cs) good = after-made params h passed cs (and_parts (is-good c) (list_all is-good cs) good).1
after-made params h zero (c ∷ cs) good =
    let parts = and_parts (is-good c) (list_all is-good cs) good in
    by (is_dollar c) parts.0 (after-made params h zero cs parts.1) (after-made params h (length (longest_name cs)) cs parts.1)
  where
    by : (b : Bool) → is-good c ≡ true → Made (filled_after params zero cs) → Made (filled_after params (length (longest_name cs)) cs) →
        Made (cond b (dollar_filled (value_of params (encode_utf8_all (longest_name cs))) (filled_after params zero cs) (filled_after params (length (longest_name cs)) cs)) (encode_utf8 c ++ filled_after params zero cs))
    by true own rest after =
        dollar-made (value_of params (encode_utf8_all (longest_name cs))) (filled_after params zero cs) (filled_after params (length (longest_name cs)) cs)
        (value-made params (encode_utf8_all (longest_name cs)) h) rest after
    by false own rest after = of_chars_append (encode_utf8 c) (filled_after params zero cs) (made-one c own) rest

pub filled_made : (params : List Param) → Each MadeParam params → (text : List ℕ) → Made text → Made (filled params text)
filled_made params h text made =
    let characters = (and_parts (is_utf8 text) (list_all is_xml_char (chars text)) made).1 in
    after-made params h zero (chars text) (all-good (chars text) characters (scalars-chars text (utf8_of text made)))
