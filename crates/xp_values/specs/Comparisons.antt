-- Comparisons (XPath 1.0, section 3.4).
use Rattle.std.specs.Prelude.{ℕ, ℤ, Bool, true, false, not, ◌&&◌, ◌||◌, List, [], ◌∷◌, map, int_lt, bytes_eq, Result, Ok, if◌then◌else◌}
use Rattle.std.specs.List.{list_any}
use Rattle.std.specs.Ordering.{int_eq}
use Rattle.doc_tree.specs.Table.{Table}
use Rattle.doc_tree.specs.Walks.{string_value_of}
use Rattle.xp_tree.specs.declared.operators.Comparison.{Comparison}
use Rattle.xp_tree.specs.declared.operators.Comparison.TheVariants.{Eq, Ne, Lt, Le, Gt, Ge}
use Rattle.xp_values.specs.declared.numbers.Num.{Num}
use Rattle.xp_values.specs.declared.numbers.Num.TheVariants.{NaN, Whole}
use Rattle.xp_values.specs.declared.values.EvalFault.{EvalFault}
use Rattle.xp_values.specs.declared.values.Value.{Value}
use Rattle.xp_values.specs.declared.values.Value.TheVariants.{NodeSet, Truth, Number, Chars}
use Rattle.xp_values.specs.Conversions.{to_text, to_truth, truth_number}
use Rattle.xp_values.specs.Numerals.{text_to_number}
use Rattle.xp_values.specs.Outcomes.{then_of}

abbrev pub is_node_set : Value → Bool
is_node_set (NodeSet _) = true
is_node_set (Truth _) = false
is_node_set (Number _) = false
is_node_set (Chars _) = false

abbrev pub is_truth : Value → Bool
is_truth (NodeSet _) = false
is_truth (Truth _) = true
is_truth (Number _) = false
is_truth (Chars _) = false

abbrev pub is_number : Value → Bool
is_number (NodeSet _) = false
is_number (Truth _) = false
is_number (Number _) = true
is_number (Chars _) = false

-- whether the comparison is one by order, and whether it is `!=`
abbrev pub is_order : Comparison → Bool
is_order Eq = false
is_order Ne = false
is_order Lt = true
is_order Le = true
is_order Gt = true
is_order Ge = true

abbrev pub is_unequal : Comparison → Bool
is_unequal Eq = false
is_unequal Ne = true
is_unequal Lt = false
is_unequal Le = false
is_unequal Gt = false
is_unequal Ge = false

abbrev pub whole_test : Comparison → ℤ → ℤ → Bool
whole_test Eq x y = int_eq x y
whole_test Ne x y = not (int_eq x y)
whole_test Lt x y = int_lt x y
whole_test Le x y = not (int_lt y x)
whole_test Gt x y = int_lt y x
whole_test Ge x y = not (int_lt x y)

-- two numbers compared: NaN equals nothing, and no order holds of it
abbrev pub number_test : Comparison → Num → Num → Bool
number_test op NaN y = is_unequal op
number_test op (Whole x) NaN = is_unequal op
number_test op (Whole x) (Whole y) = whole_test op x y

-- two texts compared by `=`, or by `!=`
abbrev pub text_test : Comparison → List ℕ → List ℕ → Bool
text_test op x y = if is_unequal op then not (bytes_eq x y) else bytes_eq x y

-- whether some pair passes, of one from each list
abbrev pub some_pair : {A : Type 0} → (A → A → Bool) → List A → List A → Bool
some_pair test xs ys = list_any (λ x. list_any (test x) ys) xs

-- the texts that a side stands for: the string-value of each node of a node-set, or the text of the value
abbrev pub texts_of : Table → Value → List (List ℕ)
texts_of T (NodeSet nodes) = map (string_value_of T) nodes
texts_of T (Truth truth) = to_text T (Truth truth) ∷ []
texts_of T (Number number) = to_text T (Number number) ∷ []
texts_of T (Chars text) = text ∷ []

-- texts as numbers, one after another; the first fault is that of all
abbrev pub all_numbers : List (List ℕ) → Result (List Num) EvalFault
all_numbers [] = Ok []
all_numbers (text ∷ texts) =
    then_of (text_to_number text) (λ number. then_of (all_numbers texts) (λ numbers. Ok (number ∷ numbers)))

-- the numbers that a side stands for: that of each node's string-value, or the number of the value
abbrev pub numbers_of : Table → Value → Result (List Num) EvalFault
numbers_of T (NodeSet nodes) = all_numbers (map (string_value_of T) nodes)
numbers_of T (Truth truth) = Ok (truth_number truth ∷ [])
numbers_of T (Number number) = Ok (number ∷ [])
numbers_of T (Chars text) = then_of (text_to_number text) (λ number. Ok (number ∷ []))

abbrev pub truths_compared : Comparison → Value → Value → Bool
truths_compared op a b = number_test op (truth_number (to_truth a)) (truth_number (to_truth b))

-- some pair of numbers; all of the left side are converted first, then all of the right side
abbrev pub numbers_compared : Table → Comparison → Value → Value → Result Bool EvalFault
numbers_compared T op a b = then_of (numbers_of T a) (λ xs. then_of (numbers_of T b) (λ ys. Ok (some_pair (number_test op) xs ys)))

abbrev pub texts_compared : Table → Comparison → Value → Value → Bool
texts_compared T op a b = some_pair (text_test op) (texts_of T a) (texts_of T b)

-- whether two values are compared as truths: by order a node-set with a truth, else where one is a truth
abbrev pub go_by_truths : Comparison → Value → Value → Bool
go_by_truths op a b =
    if is_order op then is_node_set a && is_truth b || is_truth a && is_node_set b else is_truth a || is_truth b

-- whether others are compared as numbers: by order always, else where one is a number
abbrev pub go_by_numbers : Comparison → Value → Value → Bool
go_by_numbers op a b = is_order op || is_number a || is_number b

abbrev pub compare : Table → Comparison → Value → Value → Result Bool EvalFault
compare T op a b =
    if go_by_truths op a b then Ok (truths_compared op a b)
    else (if go_by_numbers op a b then numbers_compared T op a b else Ok (texts_compared T op a b))
