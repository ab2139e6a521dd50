-- What each variant of an expression means, by the parts that the program holds.
use Rattle.std.proofs.Common.{◌≡◌, ℕ, ℤ, List, [], ◌∷◌, Result, Ok, Err, refl, sym, ◌∙◌, ap}
use Rattle.std.specs.Prelude.{Box, Vec, Some, None, flat_map}
use Rattle.std.specs.declared.alloc.Global.{Global}
use Rattle.doc_tree.specs.Table.{Table}
use Rattle.doc_axes.specs.Sets.{in_order}
use Rattle.xp_typed_tree.specs.declared.value_type.ValueType.{ValueType}
use Rattle.xp_typed_tree.specs.declared.function.Function.{Function}
use Rattle.xp_typed_tree.specs.declared.expr.TypedExpr.{TypedExpr}
use Rattle.xp_typed_tree.specs.declared.expr.Compared.{Compared}
use Rattle.xp_typed_tree.specs.declared.expr.Combined.{Combined}
use Rattle.xp_typed_tree.specs.declared.expr.TypedStart.{TypedStart}
use Rattle.xp_typed_tree.specs.declared.expr.TypedStep.{TypedStep}
use Rattle.xp_typed_tree.specs.declared.expr.TypedExpr.TheVariants as exprs
use Rattle.xp_typed_tree.specs.declared.expr.TypedStart.TheVariants as starts
use Rattle.xp_typed_tree.specs.TypedView.{typed_tree_of, typed_seen, place_of, compared_list_seen, combined_list_seen, typed_steps_seen}
use Rattle.xp_typed_tree.proofs.TypedViewLemmas.{of-Or, of-And, of-Compare, of-Arith, of-Negate, of-Union, of-Path, of-Filter, of-Variable, of-Literal, of-Number, of-Call, of-Root, of-Here, of-From}
use Rattle.xp_outcome.specs.Evaluation.{Evaluation, done, given, bind, visit, reading, variable}
use Rattle.xp_outcome.specs.Slots.{in_slot}
use Rattle.xp_outcome.proofs.Outcomes.{bind_alike, bind-done, bind-visit, bind_assoc}
use Rattle.xp_values.specs.declared.values.Value.{Value}
use Rattle.xp_values.specs.declared.values.Value.TheVariants.{NodeSet, Truth, Number, Chars}
use Rattle.xp_values.specs.declared.values.EvalFault.{EvalFault}
use Rattle.xp_values.specs.declared.numbers.Num.TheVariants.{Whole}
use Rattle.xp_meaning.specs.Conversions.{nodes_of, number_in}
use Rattle.xp_meaning.specs.declared.context.Context.{Context}
use Rattle.xp_meaning.specs.Operators.{negated}
use Rattle.xp_meaning.specs.Paths.{filtered, path}
use Rattle.xp_meaning.specs.Functions.{applied}
use Rattle.xp_meaning.specs.Evaluation.{Lets, meaning, meanings, some_true, all_true, compared, combined, values, start_nodes, comparands_meant, combinands_meant, steps_meant, slot_value}
use Rattle.xp_eval.specs.inner.Wants.{wanted_by}

-- what follows a part of a value follows the value
pub bind_mapped : {F A B C : Type 0} (m : Evaluation F A) (part : A → B) (next : B → Evaluation F C) →
    bind (bind m (λ v. done (part v))) next ≡ bind m (λ v. next (part v))
bind_mapped m part next =
    bind_assoc m (λ v. done (part v)) next
    ∙ bind_alike m (λ v. bind (done (part v)) next) (λ v. next (part v)) (λ v. bind-done (part v) next)

module _ (T : Table) (L : Lets) (e : TypedExpr) (c : Context) where
  pub view-Or : (v : Vec TypedExpr Global) (es : List TypedExpr) → e ≡ exprs.Or v → es ≡ v.items →
      meaning T L (typed_tree_of e) c ≡ visit (bind (some_true (meanings T L (typed_seen es)) c) (λ truth. done (Truth truth)))
  view-Or v es is all =
      ap (λ t. meaning T L t c) (ap typed_tree_of is ∙ of-Or v)
      ∙ ap (λ xs. visit (bind (some_true (meanings T L (typed_seen xs)) c) (λ truth. done (Truth truth)))) (sym all)

  pub view-And : (v : Vec TypedExpr Global) (es : List TypedExpr) → e ≡ exprs.And v → es ≡ v.items →
      meaning T L (typed_tree_of e) c ≡ visit (bind (all_true (meanings T L (typed_seen es)) c) (λ truth. done (Truth truth)))
  view-And v es is all =
      ap (λ t. meaning T L t c) (ap typed_tree_of is ∙ of-And v)
      ∙ ap (λ xs. visit (bind (all_true (meanings T L (typed_seen xs)) c) (λ truth. done (Truth truth)))) (sym all)

  pub view-Compare : (b : Box TypedExpr Global) (v : Vec Compared Global) (first : TypedExpr) (rest : List Compared) →
      e ≡ exprs.Compare b v → first ≡ b.value → rest ≡ v.items →
      meaning T L (typed_tree_of e) c ≡ visit (bind (meaning T L (typed_tree_of first) c) (λ w. compared T (comparands_meant T L (compared_list_seen rest)) w c))
  view-Compare b v first rest is same all =
      ap (λ t. meaning T L t c) (ap typed_tree_of is ∙ of-Compare b v)
      ∙ ap (λ x. visit (bind (meaning T L (typed_tree_of x) c) (λ w. compared T (comparands_meant T L (compared_list_seen v.items)) w c))) (sym same)
      ∙ ap (λ xs. visit (bind (meaning T L (typed_tree_of first) c) (λ w. compared T (comparands_meant T L (compared_list_seen xs)) w c))) (sym all)

  pub view-Arith : (b : Box TypedExpr Global) (v : Vec Combined Global) (first : TypedExpr) (rest : List Combined) →
      e ≡ exprs.Arith b v → first ≡ b.value → rest ≡ v.items →
      meaning T L (typed_tree_of e) c ≡ visit (bind (bind (meaning T L (typed_tree_of first) c) (number_in T)) (λ x.
      bind (combined T (combinands_meant T L (combined_list_seen rest)) x c) (λ y. done (Number y))))
  view-Arith b v first rest is same all =
      ap (λ t. meaning T L t c) (ap typed_tree_of is ∙ of-Arith b v)
      ∙ ap visit (sym (bind_assoc (meaning T L (typed_tree_of b.value) c) (number_in T) (λ x.
      bind (combined T (combinands_meant T L (combined_list_seen v.items)) x c) (λ y. done (Number y)))))
      ∙ ap (λ f. visit (bind (bind (meaning T L (typed_tree_of f) c) (number_in T)) (λ x.
      bind (combined T (combinands_meant T L (combined_list_seen v.items)) x c) (λ y. done (Number y))))) (sym same)
      ∙ ap (λ xs. visit (bind (bind (meaning T L (typed_tree_of first) c) (number_in T)) (λ x.
      bind (combined T (combinands_meant T L (combined_list_seen xs)) x c) (λ y. done (Number y))))) (sym all)

  pub view-Negate : (signs : ℕ) (b : Box TypedExpr Global) (operand : TypedExpr) → e ≡ exprs.Negate signs b → operand ≡ b.value →
      meaning T L (typed_tree_of e) c
      ≡ visit (bind (bind (meaning T L (typed_tree_of operand) c) (number_in T)) (λ x. bind (given (negated signs x)) (λ y. done (Number y))))
  view-Negate signs b operand is same =
      ap (λ t. meaning T L t c) (ap typed_tree_of is ∙ of-Negate signs b)
      ∙ ap visit (sym (bind_assoc (meaning T L (typed_tree_of b.value) c) (number_in T) (λ x. bind (given (negated signs x)) (λ y. done (Number y)))))
      ∙ ap (λ f. visit (bind (bind (meaning T L (typed_tree_of f) c) (number_in T)) (λ x. bind (given (negated signs x)) (λ y. done (Number y))))) (sym same)

  pub view-Union : (v : Vec TypedExpr Global) (es : List TypedExpr) → e ≡ exprs.Union v → es ≡ v.items →
      meaning T L (typed_tree_of e) c ≡ visit (bind (values T (wanted_by None) (meanings T L (typed_seen es)) c) (λ vs. done (NodeSet (in_order T (flat_map nodes_of vs)))))
  view-Union v es is all =
      ap (λ t. meaning T L t c) (ap typed_tree_of is ∙ of-Union v)
      ∙ ap (λ xs. visit (bind (values T (wanted_by None) (meanings T L (typed_seen xs)) c) (λ vs. done (NodeSet (in_order T (flat_map nodes_of vs)))))) (sym all)

  pub view-Path : (s : TypedStart) (v : Vec TypedStep Global) (steps : List TypedStep) → e ≡ exprs.Path s v → steps ≡ v.items →
      meaning T L (typed_tree_of e) c ≡ visit (bind (start_nodes T L (place_of s) c) (λ ns.
      bind (path T (steps_meant T L (typed_steps_seen steps)) c.current ns) (λ ms. done (NodeSet ms))))
  view-Path s v steps is all =
      ap (λ t. meaning T L t c) (ap typed_tree_of is ∙ of-Path s v)
      ∙ ap (λ xs. visit (bind (start_nodes T L (place_of s) c) (λ ns. bind (path T (steps_meant T L (typed_steps_seen xs)) c.current ns) (λ ms. done (NodeSet ms))))) (sym all)

  pub view-Filter : (b : Box TypedExpr Global) (v : Vec TypedExpr Global) (base : TypedExpr) (ps : List TypedExpr) →
      e ≡ exprs.Filter b v → base ≡ b.value → ps ≡ v.items →
      meaning T L (typed_tree_of e) c ≡ visit (bind (bind (meaning T L (typed_tree_of base) c) (λ w. done (nodes_of w))) (λ ns.
      bind (filtered (meanings T L (typed_seen ps)) c.current ns) (λ ms. done (NodeSet ms))))
  view-Filter b v base ps is same all =
      ap (λ t. meaning T L t c) (ap typed_tree_of is ∙ of-Filter b v)
      ∙ ap visit (sym (bind_mapped (meaning T L (typed_tree_of b.value) c) nodes_of (λ ns.
      bind (filtered (meanings T L (typed_seen v.items)) c.current ns) (λ ms. done (NodeSet ms)))))
      ∙ ap (λ f. visit (bind (bind (meaning T L (typed_tree_of f) c) (λ w. done (nodes_of w))) (λ ns.
      bind (filtered (meanings T L (typed_seen v.items)) c.current ns) (λ ms. done (NodeSet ms))))) (sym same)
      ∙ ap (λ xs. visit (bind (bind (meaning T L (typed_tree_of base) c) (λ w. done (nodes_of w))) (λ ns.
      bind (filtered (meanings T L (typed_seen xs)) c.current ns) (λ ms. done (NodeSet ms))))) (sym all)

  pub view-Variable : (place : ℕ) (type : ValueType) → e ≡ exprs.Variable place type →
      meaning T L (typed_tree_of e) c ≡ visit (reading (variable place) (slot_value (in_slot L place)))
  view-Variable place type is = ap (λ t. meaning T L t c) (ap typed_tree_of is ∙ of-Variable place type)

  pub view-Literal : (value : List ℕ) → e ≡ exprs.Literal value → meaning T L (typed_tree_of e) c ≡ visit (done (Chars value))
  view-Literal value is = ap (λ t. meaning T L t c) (ap typed_tree_of is ∙ of-Literal value)

  pub literal_bound : {B : Type 0} (next : Value → Evaluation EvalFault B) (value : List ℕ) → e ≡ exprs.Literal value →
      bind (meaning T L (typed_tree_of e) c) next ≡ visit (next (Chars value))
  literal_bound next value is =
      ap (λ m. bind m next) (view-Literal value is) ∙ bind-visit (done (Chars value)) next ∙ ap visit (bind-done (Chars value) next)

  pub view-Number : (value : ℤ) → e ≡ exprs.Number value → meaning T L (typed_tree_of e) c ≡ visit (done (Number (Whole value)))
  view-Number value is = ap (λ t. meaning T L t c) (ap typed_tree_of is ∙ of-Number value)

  pub view-Call : (f : Function) (v : Vec TypedExpr Global) (es : List TypedExpr) → e ≡ exprs.Call f v → es ≡ v.items →
      meaning T L (typed_tree_of e) c ≡ visit (bind (values T (wanted_by (Some f)) (meanings T L (typed_seen es)) c) (λ vs. applied T f c vs))
  view-Call f v es is all =
      ap (λ t. meaning T L t c) (ap typed_tree_of is ∙ of-Call f v)
      ∙ ap (λ xs. visit (bind (values T (wanted_by (Some f)) (meanings T L (typed_seen xs)) c) (λ vs. applied T f c vs))) (sym all)

  -- a call without arguments is one visit
  pub view-bare-Call : (f g : Function) (v : Vec TypedExpr Global) (es : List TypedExpr) → e ≡ exprs.Call f v → es ≡ v.items → f ≡ g → es ≡ [] →
      meaning T L (typed_tree_of e) c ≡ visit (applied T g c [])
  view-bare-Call f g v es is all same none =
      view-Call f v es is all
      ∙ ap (λ (h : Function). visit (bind (values T (wanted_by (Some h)) (meanings T L (typed_seen es)) c) (λ vs. applied T h c vs))) same
      ∙ ap (λ (xs : List TypedExpr). visit (bind (values T (wanted_by (Some g)) (meanings T L (typed_seen xs)) c) (λ vs. applied T g c vs))) none
      ∙ ap visit (bind-done [] (λ vs. applied T g c vs))

module _ (T : Table) (L : Lets) (s : TypedStart) (c : Context) where
  pub view-Root : s ≡ starts.Root → start_nodes T L (place_of s) c ≡ done (0 ∷ [])
  view-Root is = ap (λ p. start_nodes T L p c) (ap place_of is ∙ of-Root)

  pub view-Here : s ≡ starts.Here → start_nodes T L (place_of s) c ≡ done (c.node ∷ [])
  view-Here is = ap (λ p. start_nodes T L p c) (ap place_of is ∙ of-Here)

  pub view-From : (b : Box TypedExpr Global) (base : TypedExpr) → s ≡ starts.From b → base ≡ b.value →
      start_nodes T L (place_of s) c ≡ bind (meaning T L (typed_tree_of base) c) (λ v. done (nodes_of v))
  view-From b base is same =
      ap (λ p. start_nodes T L p c) (ap place_of is ∙ of-From b) ∙ ap (λ x. bind (meaning T L (typed_tree_of x) c) (λ v. done (nodes_of v))) (sym same)

  -- the rule's node, after a visit
  pub view-current : (b : Box TypedExpr Global) (base : TypedExpr) → s ≡ starts.From b → base ≡ b.value →
      meaning T L (typed_tree_of base) c ≡ visit (done (NodeSet (c.current ∷ []))) → start_nodes T L (place_of s) c ≡ visit (done (c.current ∷ []))
  view-current b base is same current =
      view-From b base is same
      ∙ ap (λ m. bind m (λ v. done (nodes_of v))) current
      ∙ bind-visit (done (NodeSet (c.current ∷ []))) (λ v. done (nodes_of v))
      ∙ ap visit (bind-done (NodeSet (c.current ∷ [])) (λ v. done (nodes_of v)))

-- a slot that is set gives what it holds
pub slot_given : (r : Result Value EvalFault) → slot_value (Some r) ≡ given r
slot_given (Ok v) = refl
slot_given (Err f) = refl
