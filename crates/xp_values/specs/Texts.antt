-- Functions on texts (XPath 1.0, section 4.2). Positions and lengths count characters.
use Rattle.std.specs.Prelude.{ℕ, pos, suc, ◌+◌, ◌+ℤ◌, ◌==◌, Bool, false, not, ◌&&◌, nat_le, nat_eq, int_le, int_lt, List, [], ◌∷◌, ◌++◌, length, take, drop, Option, None, Some, is_some, option_map, option_to_list, Result, Ok, Err, chars, encode_utf8_all, flat_map, if◌then◌else◌}
use Rattle.std.specs.List.{starts_with}
use Rattle.sch_base.specs.Characters.{is_whitespace}
use Rattle.sch_base.specs.declared.limits.TheConstants.{MAX_TEXT_BYTES}
use Rattle.xp_values.specs.declared.numbers.Num.{Num}
use Rattle.xp_values.specs.declared.numbers.Num.TheVariants.{NaN, Whole}
use Rattle.xp_values.specs.declared.values.EvalFault.{EvalFault}
use Rattle.xp_values.specs.declared.values.EvalFault.TheVariants.{TextLimit}

-- a text, unless it is longer than a text may be
abbrev pub limited : List ℕ → Result (List ℕ) EvalFault
limited text = if nat_le (length text) MAX_TEXT_BYTES then Ok text else Err TextLimit

abbrev pub concat : List ℕ → List ℕ → Result (List ℕ) EvalFault
concat a b = limited (a ++ b)

abbrev pub begins_with : List ℕ → List ℕ → Bool
begins_with text part = starts_with nat_eq text part

-- the first place at which a part stands in a text
abbrev pub first_place : List ℕ → List ℕ → Option ℕ
first_place [] part = if begins_with [] part then Some 0 else None
first_place (b ∷ text) part = if begins_with (b ∷ text) part then Some 0 else option_map suc (first_place text part)

abbrev pub contains : List ℕ → List ℕ → Bool
contains text part = is_some (first_place text part)

abbrev pub before_place : List ℕ → Option ℕ → List ℕ
before_place text None = []
before_place text (Some place) = take place text

abbrev pub after_place : List ℕ → List ℕ → Option ℕ → List ℕ
after_place text part None = []
after_place text part (Some place) = drop (place + length part) text

abbrev pub substring_before : List ℕ → List ℕ → List ℕ
substring_before text part = before_place text (first_place text part)

abbrev pub substring_after : List ℕ → List ℕ → List ℕ
substring_after text part = after_place text part (first_place text part)

abbrev pub string_length : List ℕ → Num
string_length text = Whole (pos (length (chars text)))

-- whether the character at a position, the first one's being 1, belongs to a substring
abbrev pub is_within : Num → Option Num → ℕ → Bool
is_within NaN len position = false
is_within (Whole from) None position = int_le from (pos position)
is_within (Whole from) (Some NaN) position = false
is_within (Whole from) (Some (Whole len)) position = int_le from (pos position) && int_lt (pos position) (from +ℤ len)

-- the characters whose positions pass, the first one's being given
abbrev pub at_positions : (ℕ → Bool) → ℕ → List ℕ → List ℕ
at_positions keep position [] = []
at_positions keep position (c ∷ characters) =
    if keep position then c ∷ at_positions keep (position + 1) characters else at_positions keep (position + 1) characters

abbrev pub substring : List ℕ → Num → Option Num → List ℕ
substring text from len = encode_utf8_all (at_positions (is_within from len) 1 (chars text))

-- whether characters begin with one that isn't whitespace
abbrev pub begins_word : List ℕ → Bool
begins_word [] = false
begins_word (c ∷ characters) = not (is_whitespace c)

abbrev pub without_front_spaces : List ℕ → List ℕ
without_front_spaces [] = []
without_front_spaces (c ∷ characters) = if is_whitespace c then without_front_spaces characters else c ∷ characters

-- each run of whitespace as one space, and none at the end
abbrev pub squeezed : List ℕ → List ℕ
squeezed [] = []
squeezed (c ∷ characters) =
    if is_whitespace c then (if begins_word characters then 32 ∷ squeezed characters else squeezed characters)
    else c ∷ squeezed characters

-- what a character that isn't whitespace adds after others: itself, after a space where whitespace came before
abbrev pub added : Bool → ℕ → List ℕ
added pending c = if pending then 32 ∷ c ∷ [] else c ∷ []

abbrev pub normalize_space : List ℕ → List ℕ
normalize_space text = encode_utf8_all (squeezed (without_front_spaces (chars text)))

-- what stands at the place of the first c among `from`: none where c isn't there, no character where `to` is shorter
abbrev pub counterpart : List ℕ → List ℕ → ℕ → Option (Option ℕ)
counterpart [] to c = None
counterpart (f ∷ from) [] c = if f == c then Some None else counterpart from [] c
counterpart (f ∷ from) (t ∷ to) c = if f == c then Some (Some t) else counterpart from to c

-- a character by its counterpart: it stays, is left out, or is replaced
abbrev pub replaced_by : ℕ → Option (Option ℕ) → Option ℕ
replaced_by c None = Some c
replaced_by c (Some None) = None
replaced_by c (Some (Some t)) = Some t

abbrev pub replacement : List ℕ → List ℕ → ℕ → List ℕ
replacement from to c = option_to_list (replaced_by c (counterpart from to c))

abbrev pub translate : List ℕ → List ℕ → List ℕ → Result (List ℕ) EvalFault
translate text from to = limited (encode_utf8_all (flat_map (replacement (chars from) (chars to)) (chars text)))
