-- Texts whose characters are replaced by what is kept of each.
use Rattle.std.specs.Prelude.{ℕ, List, Option, option_to_list, Result, chars, encode_utf8_all, flat_map}
use Rattle.xp_values.specs.declared.values.EvalFault.{EvalFault}
use Rattle.xp_values.specs.Texts.{limited, replaced_by}

-- what stands in the place of a character
abbrev pub in_place : (ℕ → Option (Option ℕ)) → ℕ → List ℕ
in_place counterparts c = option_to_list (replaced_by c (counterparts c))

abbrev pub all_replaced : (ℕ → Option (Option ℕ)) → List ℕ → Result (List ℕ) EvalFault
all_replaced counterparts text = limited (encode_utf8_all (flat_map (in_place counterparts) (chars text)))
