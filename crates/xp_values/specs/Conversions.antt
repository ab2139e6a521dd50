-- Conversions (XPath 1.0, sections 4.2 to 4.4).
use Rattle.std.specs.Prelude.{ℕ, pos, ◌==◌, Bool, true, false, not, List, [], ◌∷◌, length, codes, Result, Ok}
use Rattle.std.specs.Fmt.{signed_decimal}
use Rattle.std.specs.Ordering.{int_eq}
use Rattle.doc_tree.specs.Table.{Table}
use Rattle.doc_tree.specs.Walks.{string_value_of}
use Rattle.xp_values.specs.declared.numbers.Num.{Num}
use Rattle.xp_values.specs.declared.numbers.Num.TheVariants.{NaN, Whole}
use Rattle.xp_values.specs.declared.values.EvalFault.{EvalFault}
use Rattle.xp_values.specs.declared.values.Value.{Value}
use Rattle.xp_values.specs.declared.values.Value.TheVariants.{NodeSet, Truth, Number, Chars}
use Rattle.xp_values.specs.Numbers.{InRange}
use Rattle.xp_values.specs.Numerals.{text_to_number}

-- a number of a value lies in the range
abbrev pub ValueInRange : Value → Type 0
ValueInRange (NodeSet nodes) = Unit {0}
ValueInRange (Truth truth) = Unit {0}
ValueInRange (Number number) = InRange number
ValueInRange (Chars text) = Unit {0}

abbrev pub truth_text : Bool → List ℕ
truth_text true = codes "true"
truth_text false = codes "false"

-- a number as text: in decimal, with a minus sign where it is negative
abbrev pub number_text : Num → List ℕ
number_text NaN = codes "NaN"
number_text (Whole z) = signed_decimal z

-- the string-value of the first of some nodes, empty for none
abbrev pub first_text : Table → List ℕ → List ℕ
first_text T [] = []
first_text T (n ∷ nodes) = string_value_of T n

abbrev pub to_text : Table → Value → List ℕ
to_text T (NodeSet nodes) = first_text T nodes
to_text T (Truth truth) = truth_text truth
to_text T (Number number) = number_text number
to_text T (Chars text) = text

abbrev pub truth_number : Bool → Num
truth_number true = Whole (pos 1)
truth_number false = Whole (pos 0)

abbrev pub to_number : Table → Value → Result Num EvalFault
to_number T (NodeSet nodes) = text_to_number (first_text T nodes)
to_number T (Truth truth) = Ok (truth_number truth)
to_number T (Number number) = Ok number
to_number T (Chars text) = text_to_number text

-- whether a number is neither zero nor NaN
abbrev pub number_truth : Num → Bool
number_truth NaN = false
number_truth (Whole z) = not (int_eq z (pos 0))

abbrev pub to_truth : Value → Bool
to_truth (NodeSet nodes) = not (length nodes == 0)
to_truth (Truth truth) = truth
to_truth (Number number) = number_truth number
to_truth (Chars text) = not (length text == 0)
