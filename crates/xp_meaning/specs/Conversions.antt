-- Conversions and comparisons in evaluation (XPath 1.0, sections 3.4, 3.5 and 4): they take the string-values that they
-- need, and then convert.
use Rattle.std.specs.Prelude.{ℕ, Bool, List, [], ◌∷◌, ◌++◌, Result, Ok, pos, if◌then◌else◌}
use Rattle.doc_tree.specs.Table.{Table}
use Rattle.doc_tree.specs.Walks.{string_value_of}
use Rattle.xp_outcome.specs.Evaluation.{Evaluation, done, given, bind}
use Rattle.xp_meaning.specs.declared.want.Want.{Want}
use Rattle.xp_meaning.specs.declared.want.Want.TheVariants.{AsItIs, AsText, AsNumber}
use Rattle.xp_values.specs.declared.values.Value.{Value}
use Rattle.xp_values.specs.declared.values.Value.TheVariants.{NodeSet, Truth, Number, Chars}
use Rattle.xp_values.specs.declared.values.EvalFault.{EvalFault}
use Rattle.xp_values.specs.declared.numbers.Num.{Num}
use Rattle.xp_values.specs.declared.numbers.Num.TheVariants.{Whole}
use Rattle.xp_tree.specs.declared.operators.ArithOp.TheVariants as ops
use Rattle.xp_tree.specs.declared.operators.Comparison.{Comparison}
use Rattle.xp_values.specs.Numbers.{arith}
use Rattle.xp_values.specs.Numerals.{text_to_number}
use Rattle.xp_values.specs.Conversions.{to_text, to_number}
use Rattle.xp_values.specs.Comparisons.{compare, is_truth}
use Rattle.xp_values.specs.Outcomes.{then_of}
use Rattle.xp_meaning.specs.Reads.{taking}

-- the nodes of a node-set
abbrev pub nodes_of : Value → List ℕ
nodes_of (NodeSet ns) = ns
nodes_of (Truth b) = []
nodes_of (Number n) = []
nodes_of (Chars s) = []

-- the first of some nodes
abbrev pub first_of : List ℕ → List ℕ
first_of [] = []
first_of (n ∷ ns) = n ∷ []

-- a value as a text: of a node-set the string-value of the first node is taken
unfoldable pub text_in : Table → Value → Evaluation EvalFault (List ℕ)
text_in T v = taking T (first_of (nodes_of v)) (done (to_text T v))

-- a value as a number
unfoldable pub number_in : Table → Value → Evaluation EvalFault Num
number_in T v = taking T (first_of (nodes_of v)) (given (to_number T v))

-- the nodes whose string-values a comparison takes: those of the left side, then those of the right side, and none
-- where a side is a boolean
abbrev pub compared_nodes : Value → Value → List ℕ
compared_nodes v w = if is_truth v then [] else (if is_truth w then [] else nodes_of v ++ nodes_of w)

-- a comparison of two values
unfoldable pub compare_in : Table → Comparison → Value → Value → Evaluation EvalFault Bool
compare_in T op v w = taking T (compared_nodes v w) (given (compare T op v w))

-- the numbers of some nodes added in turn, each sum in range
abbrev pub sum_from : Table → Num → List ℕ → Result Num EvalFault
sum_from T total [] = Ok total
sum_from T total (n ∷ ns) =
    then_of (text_to_number (string_value_of T n)) (λ number. then_of (arith ops.Add total number) (λ sum. sum_from T sum ns))

-- the sum of the numbers of some nodes, whose string-values are all taken first (XPath 1.0, section 4.4)
unfoldable pub sum_in : Table → List ℕ → Evaluation EvalFault Num
sum_in T ns = taking T ns (given (sum_from T (Whole (pos 0)) ns))

-- a value as it is wanted
abbrev pub as_wanted : Table → Want → Value → Evaluation EvalFault Value
as_wanted T AsItIs v = done v
as_wanted T AsText v = bind (text_in T v) (λ s. done (Chars s))
as_wanted T AsNumber v = bind (number_in T v) (λ n. done (Number n))
