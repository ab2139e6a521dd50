-- Evaluation (XPath 1.0, sections 2, 3 and 4): what each expression gives in a context, by what its parts give. Each
-- part that is evaluated is one visit; evaluation goes from left to right and stops at the first fault.
use Rattle.std.specs.Prelude.{ℕ, Bool, true, false, List, [], ◌∷◌, Option, None, Some, Result, Ok, Err, flat_map, if◌then◌else◌}
use Rattle.doc_tree.specs.Table.{Table}
use Rattle.doc_axes.specs.Sets.{in_order}
use Rattle.xp_tree.specs.declared.operators.Comparison.{Comparison}
use Rattle.xp_tree.specs.declared.operators.ArithOp.{ArithOp}
use Rattle.xp_typed_tree.specs.TypedTree.{TypedTree, TypedPlace, TypedSteps, Comparands, Combinands, TypedTrees, disjunction, conjunction, comparison, arithmetic, negation, union, location, selection, slot, text, whole, application, at_root, at_context, at_nodes, no_more_steps, typed_step, no_comparands, comparand, no_combinands, combinand, no_typed, typed}
use Rattle.xp_outcome.specs.Evaluation.{Evaluation, done, fault, given, bind, visit, reading, gather, variable}
use Rattle.xp_outcome.specs.Slots.{in_slot}
use Rattle.xp_values.specs.declared.values.Value.{Value}
use Rattle.xp_values.specs.declared.values.Value.TheVariants.{NodeSet, Truth, Number, Chars}
use Rattle.xp_values.specs.declared.values.EvalFault.{EvalFault}
use Rattle.xp_values.specs.declared.numbers.Num.{Num}
use Rattle.xp_values.specs.declared.numbers.Num.TheVariants.{Whole}
use Rattle.xp_values.specs.Numbers.{arith}
use Rattle.xp_values.specs.Conversions.{to_truth}
use Rattle.xp_meaning.specs.declared.want.Want.{Want}
use Rattle.xp_meaning.specs.declared.want.Want.TheVariants.{AsItIs}
use Rattle.xp_meaning.specs.Conversions.{nodes_of, number_in, compare_in, as_wanted}
use Rattle.xp_meaning.specs.declared.context.Context.{Context}
use Rattle.xp_meaning.specs.Operators.{negated}
use Rattle.xp_meaning.specs.Paths.{Meaning, Step, filtered, path}
use Rattle.xp_meaning.specs.Functions.{wanted, applied}

-- the values of the lets by slot, each a value or the fault that its evaluation met
abbrev pub Lets : Type 0
Lets = List (Option (Result Value EvalFault))

-- a later operand, with the operator before it
pub record Operand (O : Type 0) : Type 0 where
  pub operator : O
  pub meaning : Meaning

-- whether some operand is true; those after it aren't evaluated (section 3.4)
abbrev pub some_true : List Meaning → Context → Evaluation EvalFault Bool
some_true [] c = done false
some_true (m ∷ ms) c = bind (m c) (λ v. if to_truth v then done true else some_true ms c)

-- whether all operands are true; those after a false one aren't evaluated
abbrev pub all_true : List Meaning → Context → Evaluation EvalFault Bool
all_true [] c = done true
all_true (m ∷ ms) c = bind (m c) (λ v. if to_truth v then all_true ms c else done false)

-- comparisons from left to right, each with the truth of those before it
abbrev pub compared : Table → List (Operand Comparison) → Value → Context → Evaluation EvalFault Value
compared T [] v c = done v
compared T (m ∷ ms) v c =
    bind (m.meaning c) (λ w. bind (compare_in T m.operator v w) (λ truth. compared T ms (Truth truth) c))

-- arithmetic from left to right: each operand is converted and combined before the next one is evaluated
abbrev pub combined : Table → List (Operand ArithOp) → Num → Context → Evaluation EvalFault Num
combined T [] x c = done x
combined T (m ∷ ms) x c =
    bind (m.meaning c) (λ w. bind (number_in T w) (λ y. bind (given (arith m.operator x y)) (λ z. combined T ms z c)))

-- each expression in turn, its value converted before the next one is evaluated
abbrev pub values : Table → (ℕ → Want) → List Meaning → Context → Evaluation EvalFault (List Value)
values T want ms c = gather (λ i m. bind (m c) (λ v. as_wanted T (want i) v)) (λ _ _ v. v ∷ []) 0 ms

-- what a variable's slot gives; an expression names only slots that are set
abbrev pub slot_value : Option (Result Value EvalFault) → Evaluation EvalFault Value
slot_value None = done (NodeSet [])
slot_value (Some (Ok v)) = done v
slot_value (Some (Err f)) = fault f

abbrev mutual
  pub meaning : Table → Lets → TypedTree → Meaning
  meaning T L (disjunction ts) c = visit (bind (some_true (meanings T L ts) c) (λ truth. done (Truth truth)))
  meaning T L (conjunction ts) c = visit (bind (all_true (meanings T L ts) c) (λ truth. done (Truth truth)))
  meaning T L (comparison first rest) c = visit (bind (meaning T L first c) (λ v. compared T (comparands_meant T L rest) v c))
  meaning T L (arithmetic first rest) c =
      visit (bind (meaning T L first c) (λ v. bind (number_in T v) (λ x.
      bind (combined T (combinands_meant T L rest) x c) (λ y. done (Number y)))))
  meaning T L (negation signs operand) c =
      visit (bind (meaning T L operand c) (λ v. bind (number_in T v) (λ x. bind (given (negated signs x)) (λ y. done (Number y)))))
  meaning T L (union ts) c =
      visit (bind (values T (λ _. AsItIs) (meanings T L ts) c) (λ vs. done (NodeSet (in_order T (flat_map nodes_of vs)))))
  meaning T L (location place steps) c =
      visit (bind (start_nodes T L place c) (λ ns. bind (path T (steps_meant T L steps) c.current ns) (λ ms. done (NodeSet ms))))
  meaning T L (selection base predicates) c =
      visit (bind (meaning T L base c) (λ v. bind (filtered (meanings T L predicates) c.current (nodes_of v)) (λ ms. done (NodeSet ms))))
  meaning T L (slot place type) c = visit (reading (variable place) (slot_value (in_slot L place)))
  meaning T L (text characters) c = visit (done (Chars characters))
  meaning T L (whole number) c = visit (done (Number (Whole number)))
  meaning T L (application f ts) c = visit (bind (values T (wanted f) (meanings T L ts) c) (λ vs. applied T f c vs))

  -- the nodes at which a path begins
  pub start_nodes : Table → Lets → TypedPlace → Context → Evaluation EvalFault (List ℕ)
  start_nodes T L at_root c = done (0 ∷ [])
  start_nodes T L at_context c = done (c.node ∷ [])
  start_nodes T L (at_nodes base) c = bind (meaning T L base c) (λ v. done (nodes_of v))

  pub steps_meant : Table → Lets → TypedSteps → List Step
  steps_meant T L no_more_steps = []
  steps_meant T L (typed_step axis node_test predicates steps) =
      record { axis = axis; test = node_test; predicates = meanings T L predicates } ∷ steps_meant T L steps

  pub comparands_meant : Table → Lets → Comparands → List (Operand Comparison)
  comparands_meant T L no_comparands = []
  comparands_meant T L (comparand operator operand rest) =
      record { operator = operator; meaning = meaning T L operand } ∷ comparands_meant T L rest

  pub combinands_meant : Table → Lets → Combinands → List (Operand ArithOp)
  combinands_meant T L no_combinands = []
  combinands_meant T L (combinand operator operand rest) =
      record { operator = operator; meaning = meaning T L operand } ∷ combinands_meant T L rest

  pub meanings : Table → Lets → TypedTrees → List Meaning
  meanings T L no_typed = []
  meanings T L (typed t ts) = meaning T L t ∷ meanings T L ts
