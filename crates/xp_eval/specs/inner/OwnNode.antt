-- The context node, which the step `self::node()` selects, compared with a literal.
use Rattle.std.specs.Prelude.{ℕ, List, [], ◌∷◌}
use Rattle.doc_tree.specs.Table.{Table}
use Rattle.doc_tree.specs.declared.axes.Axis.TheVariants.{SelfNode}
use Rattle.doc_tree.specs.declared.axes.NodeTest.TheVariants.{Any}
use Rattle.xp_tree.specs.declared.operators.Comparison.{Comparison}
use Rattle.xp_outcome.specs.Evaluation.{Evaluation, done, bind, visits}
use Rattle.xp_values.specs.declared.values.Value.{Value}
use Rattle.xp_values.specs.declared.values.Value.TheVariants.{NodeSet, Truth, Chars}
use Rattle.xp_values.specs.declared.values.EvalFault.{EvalFault}
use Rattle.xp_meaning.specs.Conversions.{compare_in}
use Rattle.xp_meaning.specs.Paths.{Step}

-- the step `self::node()`
abbrev pub own_step : Step
own_step = record { axis = SelfNode; test = Any; predicates = [] }

-- the visits of the path, its step, its node and the literal, and then what the comparison gives
abbrev pub own_compared : Table → Comparison → ℕ → List ℕ → Evaluation EvalFault Value
own_compared T op n text = visits 4 (bind (compare_in T op (NodeSet (n ∷ [])) (Chars text)) (λ truth. done (Truth truth)))
