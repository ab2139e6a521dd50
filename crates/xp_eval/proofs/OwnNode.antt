-- What `.` means, and its comparison with a literal.
use Rattle.std.proofs.Common.{◌≡◌, ℕ, ◌+◌, Bool, true, List, [], ◌∷◌, length, eqb, ◌∙◌, ap}
use Rattle.std.specs.Prelude.{Vec, filter}
use Rattle.std.specs.declared.alloc.Global.{Global}
use Rattle.std.proofs.Math.Bool.{or-false}
use Rattle.doc_tree.specs.Table.{Table, is_live}
use Rattle.doc_tree.specs.Walks.{order}
use Rattle.doc_tree.specs.declared.axes.Axis.TheVariants.{SelfNode}
use Rattle.doc_tree.specs.declared.axes.NodeTest.TheVariants.{Any}
use Rattle.doc_axes.specs.Axes.{axis_nodes}
use Rattle.doc_axes.specs.AxesByCells.{AxesByCells}
use Rattle.doc_axes.specs.NodeTests.{passes}
use Rattle.doc_axes.specs.Sets.{in_order}
use Rattle.xp_tree.specs.declared.operators.Comparison.{Comparison}
use Rattle.xp_outcome.specs.Evaluation.{Evaluation, done, bind, visit, visits, all_reading}
use Rattle.xp_outcome.proofs.Outcomes.{behind-behind, behind-nothing, bind-done, bind-right, bind-visits}
use Rattle.xp_values.specs.declared.values.Value.{Value}
use Rattle.xp_values.specs.declared.values.Value.TheVariants.{NodeSet, Truth, Chars}
use Rattle.xp_values.specs.declared.values.EvalFault.{EvalFault}
use Rattle.xp_typed_tree.specs.declared.expr.TypedExpr.{TypedExpr}
use Rattle.xp_typed_tree.specs.declared.expr.TypedExpr.TheVariants as exprs
use Rattle.xp_typed_tree.specs.declared.expr.Compared.{Compared, out-Compared}
use Rattle.xp_typed_tree.specs.declared.expr.TypedStart.{TypedStart}
use Rattle.xp_typed_tree.specs.declared.expr.TypedStart.TheVariants as starts
use Rattle.xp_typed_tree.specs.declared.expr.TypedStep.{TypedStep, out-TypedStep}
use Rattle.xp_typed_tree.specs.TypedView.{typed_tree_of, typed_seen, typed_steps_seen, compared_list_seen}
use Rattle.xp_typed_tree.proofs.TypedViewLemmas.{of-compared}
use Rattle.xp_meaning.specs.declared.context.Context.{Context}
use Rattle.xp_meaning.specs.Conversions.{compare_in}
use Rattle.xp_meaning.specs.Paths.{candidates, step_from, path}
use Rattle.xp_meaning.specs.Evaluation.{Lets, meaning, meanings, steps_meant, compared, comparands_meant}
use Rattle.xp_eval.specs.Steps.{step_meant}
use Rattle.xp_eval.specs.inner.OwnNode.{own_step, own_compared}
use Rattle.xp_eval.proofs.Loops.{path-alone}
use Rattle.xp_eval.proofs.OneNode.{from_one}
use Rattle.xp_eval.proofs.Views.{view-Path, view-Here, literal_bound}

module _ (T : Table) (L : Lets) where
  -- a step by its three parts
  pub is_own_step : (s : TypedStep) → (out-TypedStep s).axis ≡ SelfNode → (out-TypedStep s).test ≡ Any → (out-TypedStep s).predicates.items ≡ [] → step_meant T L s ≡ own_step
  is_own_step s axis_is test_is none =
      let ps = meanings T L (typed_seen (out-TypedStep s).predicates.items) in
      ap (λ a. record { axis = a; test = (out-TypedStep s).test; predicates = ps }) axis_is
      ∙ ap (λ t. record { axis = SelfNode; test = t; predicates = ps }) test_is
      ∙ ap (λ es. record { axis = SelfNode; test = Any; predicates = meanings T L (typed_seen es) }) none

  module _ (cells : AxesByCells T) (n : ℕ) (live : is_live T n ≡ true) where
    -- the node alone is a set in document order
    alone : in_order T (n ∷ []) ≡ n ∷ []
    alone = ap (λ (p : ℕ → Bool). filter p (order T)) (λ i m. or-false (eqb m n) i) ∙ cells.self n live

    -- the step visits and selects the node
    own_candidates : candidates T SelfNode Any n ≡ visits 2 (done (n ∷ []))
    unfolding candidates all_reading visits
    own_candidates =
        behind-nothing (all_reading [] (visits (1 + length (axis_nodes T SelfNode n)) (done (filter (passes T SelfNode Any) (axis_nodes T SelfNode n)))))
        ∙ behind-nothing (visits (1 + length (axis_nodes T SelfNode n)) (done (filter (passes T SelfNode Any) (axis_nodes T SelfNode n))))
        ∙ ap (λ ns. visits (1 + length ns) (done (filter (passes T SelfNode Any) ns))) (cells.self n live)

    own_selected : (current : ℕ) → step_from T own_step current (n ∷ []) ≡ visits 2 (done (n ∷ []))
    own_selected current =
        from_one T own_step current n
        ∙ ap (λ m. bind m (λ ms. done (in_order T ms))) (bind-right (candidates T SelfNode Any n) ∙ own_candidates)
        ∙ bind-visits 2 (done (n ∷ [])) (λ ms. done (in_order T ms))
        ∙ ap (visits 2) (bind-done (n ∷ []) (λ ms. done (in_order T ms)) ∙ ap done alone)

    pub own_path : (current : ℕ) (s : TypedStep) (ss : List TypedStep) → ss ≡ s ∷ [] → step_meant T L s ≡ own_step →
        path T (steps_meant T L (typed_steps_seen ss)) current (n ∷ []) ≡ visits 2 (done (n ∷ []))
    own_path current s ss all own =
        path-alone T L ss current (n ∷ []) s all
        ∙ ap (λ t. step_from T t current (n ∷ [])) own
        ∙ own_selected current

  -- a path of that step from the context node
  pub own_node : (e : TypedExpr) (c : Context) (s : TypedStart) (v : Vec TypedStep Global) (ss : List TypedStep) → e ≡ exprs.Path s v → ss ≡ v.items → s ≡ starts.Here →
      (n : ℕ) → c.node ≡ n → path T (steps_meant T L (typed_steps_seen ss)) c.current (n ∷ []) ≡ visits 2 (done (n ∷ [])) →
      meaning T L (typed_tree_of e) c ≡ visits 3 (done (NodeSet (n ∷ [])))
  unfolding visits visit
  own_node e c s v ss is all here n at_n steps =
      let go : List ℕ → Evaluation EvalFault Value = λ ns. bind (path T (steps_meant T L (typed_steps_seen ss)) c.current ns) (λ ms. done (NodeSet ms)) in
      view-Path T L e c s v ss is all
      ∙ ap (λ m. visit (bind m go)) (view-Here T L s c here)
      ∙ ap visit (bind-done (c.node ∷ []) go)
      ∙ ap (λ k. visit (go (k ∷ []))) at_n
      ∙ ap (λ m. visit (bind m (λ ms. done (NodeSet ms)))) steps
      ∙ ap visit (bind-visits 2 (done (n ∷ [])) (λ ms. done (NodeSet ms)) ∙ ap (visits 2) (bind-done (n ∷ []) (λ ms. done (NodeSet ms))))
      ∙ behind-behind [] [] 1 2 (done (NodeSet (n ∷ [])))

  -- a literal alone behind a first operand
  pub literal_compared : (rest : List Compared) (x : Compared) (text : List ℕ) (v : Value) (c : Context) → rest ≡ x ∷ [] → (out-Compared x).expr ≡ exprs.Literal text →
      compared T (comparands_meant T L (compared_list_seen rest)) v c
      ≡ visit (bind (compare_in T (out-Compared x).operator v (Chars text)) (λ truth. done (Truth truth)))
  literal_compared rest x text v c all is =
      ap (λ xs. compared T (comparands_meant T L (compared_list_seen xs)) v c) all
      ∙ ap (λ r. compared T (comparands_meant T L r) v c) (of-compared x (compared_list_seen []))
      ∙ literal_bound T L (out-Compared x).expr c (λ w. bind (compare_in T (out-Compared x).operator v w) (λ truth. done (Truth truth))) text is

-- the context node, and then the literal
pub own_then : (T : Table) (op : Comparison) (n : ℕ) (text : List ℕ) (m : Evaluation EvalFault Value) (next : Value → Evaluation EvalFault Value) →
    m ≡ visits 3 (done (NodeSet (n ∷ []))) → next (NodeSet (n ∷ [])) ≡ visit (bind (compare_in T op (NodeSet (n ∷ [])) (Chars text)) (λ truth. done (Truth truth))) →
    bind m next ≡ own_compared T op n text
unfolding visits visit
own_then T op n text m next first rest =
    let truth : Evaluation EvalFault Value = bind (compare_in T op (NodeSet (n ∷ [])) (Chars text)) (λ truth. done (Truth truth)) in
    ap (λ k. bind k next) first
    ∙ bind-visits 3 (done (NodeSet (n ∷ []))) next
    ∙ ap (visits 3) (bind-done (NodeSet (n ∷ [])) next ∙ rest)
    ∙ behind-behind [] [] 3 1 truth
