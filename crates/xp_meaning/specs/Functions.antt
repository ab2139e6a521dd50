-- The functions (XPath 1.0, section 4; XSLT 1.0, section 12.4).
use Rattle.std.specs.Prelude.{ℕ, zero, suc, pos, Bool, true, false, not, List, [], ◌∷◌, length, Option, None, Some, Result, Ok, option_map, slice_get, flat_map}
use Rattle.doc_tree.specs.QNames.{written_in}
use Rattle.doc_tree.specs.Table.{Table}
use Rattle.xp_typed_tree.specs.declared.function.Function.{Function}
use Rattle.xp_typed_tree.specs.declared.function.Function.TheVariants as functions
use Rattle.xp_outcome.specs.Evaluation.{Evaluation, done, given, bind}
use Rattle.xp_values.specs.declared.values.Value.{Value}
use Rattle.xp_values.specs.declared.values.Value.TheVariants.{NodeSet, Truth, Number, Chars}
use Rattle.xp_values.specs.declared.values.EvalFault.{EvalFault}
use Rattle.xp_values.specs.declared.numbers.Num.{Num}
use Rattle.xp_values.specs.declared.numbers.Num.TheVariants.{NaN, Whole}
use Rattle.xp_values.specs.Conversions.{to_truth}
use Rattle.xp_values.specs.Texts.{limited, begins_with, contains, substring, substring_before, substring_after, string_length, normalize_space, translate}
use Rattle.xp_values.specs.Outcomes.{then_of}
use Rattle.xp_meaning.specs.declared.want.Want.{Want}
use Rattle.xp_meaning.specs.declared.want.Want.TheVariants.{AsItIs, AsText, AsNumber}
use Rattle.xp_meaning.specs.Conversions.{nodes_of, text_in, number_in, sum_in}
use Rattle.xp_meaning.specs.declared.context.Context.{Context}
use Rattle.xp_meaning.specs.Names.{local_in, of_name, uri_in}
use Rattle.xp_meaning.specs.Language.{in_language}

-- what the first argument of `substring` is wanted as, and what the others are
abbrev pub text_then_numbers : ℕ → Want
text_then_numbers zero = AsText
text_then_numbers (suc i) = AsNumber

-- what each argument of a function is converted to (section 3.2); the first one has the place 0
abbrev pub wanted : Function → ℕ → Want
wanted functions.Last i = AsItIs
wanted functions.Position i = AsItIs
wanted functions.Current i = AsItIs
wanted functions.Count i = AsItIs
wanted functions.Sum i = AsItIs
wanted functions.LocalName i = AsItIs
wanted functions.NamespaceUri i = AsItIs
wanted functions.Name i = AsItIs
wanted functions.String i = AsText
wanted functions.Number i = AsNumber
wanted functions.Boolean i = AsItIs
wanted functions.Not i = AsItIs
wanted functions.True i = AsItIs
wanted functions.False i = AsItIs
wanted functions.Concat i = AsText
wanted functions.StartsWith i = AsText
wanted functions.Contains i = AsText
wanted functions.SubstringBefore i = AsText
wanted functions.SubstringAfter i = AsText
wanted functions.Substring i = text_then_numbers i
wanted functions.StringLength i = AsText
wanted functions.NormalizeSpace i = AsText
wanted functions.Translate i = AsText
wanted functions.Lang i = AsText
wanted functions.Floor i = AsNumber
wanted functions.Ceiling i = AsNumber
wanted functions.Round i = AsNumber

-- the text of an argument that was wanted as one
abbrev pub text_of : Value → List ℕ
text_of (NodeSet nodes) = []
text_of (Truth truth) = []
text_of (Number number) = []
text_of (Chars text) = text

-- the number of an argument that was wanted as one
abbrev pub number_of : Value → Num
number_of (NodeSet nodes) = NaN
number_of (Truth truth) = NaN
number_of (Number number) = number
number_of (Chars text) = NaN

-- an argument by its place; there is one at each place that the function's well typed call has
abbrev pub in_place : Option Value → Value
in_place None = Truth false
in_place (Some v) = v

abbrev pub argument : List Value → ℕ → Value
argument vs i = in_place (slice_get vs i)

abbrev pub nodes_at : List Value → ℕ → List ℕ
nodes_at vs i = nodes_of (argument vs i)

abbrev pub text_at : List Value → ℕ → List ℕ
text_at vs i = text_of (argument vs i)

abbrev pub number_at : List Value → ℕ → Num
number_at vs i = number_of (argument vs i)

-- the third argument of `substring`, where there is one
abbrev pub length_in : List Value → Option Num
length_in vs = option_map number_of (slice_get vs 2)

-- the node whose name is asked for: the first of the argument's nodes, or the context node without an argument
abbrev pub named_node : Context → List Value → Option ℕ
named_node c [] = Some c.node
named_node c (v ∷ vs) = slice_get (nodes_of v) 0

-- the text of the argument, or the string-value of the context node without one
abbrev pub text_or_own : Table → Context → List Value → Evaluation EvalFault (List ℕ)
text_or_own T c [] = text_in T (NodeSet (c.node ∷ []))
text_or_own T c (v ∷ vs) = done (text_of v)

-- the number of the argument, or that of the context node without one
abbrev pub number_or_own : Table → Context → List Value → Evaluation EvalFault Num
number_or_own T c [] = number_in T (NodeSet (c.node ∷ []))
number_or_own T c (v ∷ vs) = done (number_of v)

-- answers as values
abbrev pub as_text : Evaluation EvalFault (List ℕ) → Evaluation EvalFault Value
as_text m = bind m (λ text. done (Chars text))

abbrev pub as_number : Evaluation EvalFault Num → Evaluation EvalFault Value
as_number m = bind m (λ number. done (Number number))

abbrev pub as_truth : Evaluation EvalFault Bool → Evaluation EvalFault Value
as_truth m = bind m (λ truth. done (Truth truth))

abbrev pub as_chars : Result (List ℕ) EvalFault → Result Value EvalFault
as_chars r = then_of r (λ text. Ok (Chars text))

-- a count as a number
abbrev pub counted : ℕ → Value
counted n = Number (Whole (pos n))

-- what a function gives for its converted arguments; numbers are whole, so that `floor`, `ceiling` and `round` keep them
abbrev pub applied : Table → Function → Context → List Value → Evaluation EvalFault Value
applied T functions.Last c vs = done (counted c.size)
applied T functions.Position c vs = done (counted c.position)
applied T functions.Current c vs = done (NodeSet (c.current ∷ []))
applied T functions.Count c vs = done (counted (length (nodes_at vs 0)))
applied T functions.Sum c vs = as_number (sum_in T (nodes_at vs 0))
applied T functions.LocalName c vs = of_name T (named_node c vs) (λ name. Chars (local_in name))
applied T functions.NamespaceUri c vs = of_name T (named_node c vs) (λ name. Chars (uri_in name))
applied T functions.Name c vs = of_name T (named_node c vs) (λ name. Chars (written_in name))
applied T functions.String c vs = as_text (text_or_own T c vs)
applied T functions.Number c vs = as_number (number_or_own T c vs)
applied T functions.Boolean c vs = done (Truth (to_truth (argument vs 0)))
applied T functions.Not c vs = done (Truth (not (to_truth (argument vs 0))))
applied T functions.True c vs = done (Truth true)
applied T functions.False c vs = done (Truth false)
applied T functions.Concat c vs = given (as_chars (limited (flat_map text_of vs)))
applied T functions.StartsWith c vs = done (Truth (begins_with (text_at vs 0) (text_at vs 1)))
applied T functions.Contains c vs = done (Truth (contains (text_at vs 0) (text_at vs 1)))
applied T functions.SubstringBefore c vs = done (Chars (substring_before (text_at vs 0) (text_at vs 1)))
applied T functions.SubstringAfter c vs = done (Chars (substring_after (text_at vs 0) (text_at vs 1)))
applied T functions.Substring c vs = done (Chars (substring (text_at vs 0) (number_at vs 1) (length_in vs)))
applied T functions.StringLength c vs = bind (text_or_own T c vs) (λ text. done (Number (string_length text)))
applied T functions.NormalizeSpace c vs = bind (text_or_own T c vs) (λ text. done (Chars (normalize_space text)))
applied T functions.Translate c vs = given (as_chars (translate (text_at vs 0) (text_at vs 1) (text_at vs 2)))
applied T functions.Lang c vs = as_truth (in_language T c.node (text_at vs 0))
applied T functions.Floor c vs = done (Number (number_at vs 0))
applied T functions.Ceiling c vs = done (Number (number_at vs 0))
applied T functions.Round c vs = done (Number (number_at vs 0))
