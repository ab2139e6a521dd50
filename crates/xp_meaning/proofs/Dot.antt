-- The step `self::node()` from the context node.
use Rattle.std.proofs.Common.{◌≡◌, ℕ, ◌+◌, Bool, true, false, ◌||◌, List, [], ◌∷◌, ◌++◌, eqb, refl, sym, ◌∙◌, ap, Ok}
use Rattle.std.specs.Prelude.{filter}
use Rattle.doc_tree.specs.declared.axes.Axis.TheVariants.{SelfNode}
use Rattle.doc_tree.specs.declared.axes.NodeTest.TheVariants.{Any}
use Rattle.doc_tree.specs.Lists.{mem}
use Rattle.doc_tree.specs.Laws.{Ordered}
use Rattle.doc_tree.specs.Table.{Table, is_live}
use Rattle.doc_tree.specs.Walks.{order}
use Rattle.doc_tree.proofs.ListLemmas.{In, mem-In}
use Rattle.doc_axes.specs.Axes.{axis_nodes}
use Rattle.doc_axes.specs.NodeTests.{passes}
use Rattle.doc_axes.specs.Sets.{in_order}
use Rattle.doc_axes.proofs.SubLists.{sub-one, filter-sub}
use Rattle.xp_outcome.specs.Evaluation.{Evaluation, done, bind, gather}
use Rattle.xp_typed_tree.specs.TypedTree.{at_context}
use Rattle.xp_values.specs.declared.values.Value.TheVariants.{NodeSet}
use Rattle.xp_meaning.specs.Paths.{Step, candidates, step_at, step_from, filtered, path}
use Rattle.xp_meaning.specs.Evaluation.{start_nodes}
use Rattle.xp_meaning.specs.Laws.{DotIsContext}
use Rattle.xp_meaning.proofs.Answers.{answer_then, answer_visit}
use Rattle.xp_meaning.proofs.Places.{candidates-answer}

or-nil : (b : Bool) → b ≡ (b || false)
or-nil true = refl
or-nil false = refl

module _ (T : Table) (ord : Ordered T) (n : ℕ) (live : is_live T n ≡ true) where
  among : In n (order T)
  among = mem-In n (order T) (sym (ord.live_in_order n) ∙ live)

  itself : axis_nodes T SelfNode n ≡ n ∷ []
  itself = filter-sub (λ m. eqb m n) (sub-one n (order T) among) ord.once (λ m h. or-nil (eqb m n))

  alone : in_order T (n ∷ []) ≡ n ∷ []
  alone = filter-sub (λ m. mem m (n ∷ [])) (sub-one n (order T) among) ord.once (λ m h. refl)

  abbrev self_step : Step
  self_step = record { axis = SelfNode; test = Any; predicates = [] }

  at_node : (current : ℕ) → (step_at T self_step current n).answer ≡ Ok (n ∷ [])
  unfolding done
  at_node current =
      answer_then (candidates T SelfNode Any n) (λ ms. filtered [] current ms) (filter (passes T SelfNode Any) (axis_nodes T SelfNode n)) (candidates-answer T SelfNode Any n)
      ∙ ap (λ ms. Ok (filter (passes T SelfNode Any) ms)) itself

  from_node : (current : ℕ) → (step_from T self_step current (n ∷ [])).answer ≡ Ok (n ∷ [])
  unfolding done
  from_node current =
      let gathered : Evaluation _ (List ℕ) = gather (λ _ k. step_at T self_step current k) (λ _ _ ms. ms) 1 (n ∷ []) in
      answer_then gathered (λ ms. done (in_order T ms)) (n ∷ [])
      (answer_then (step_at T self_step current n) (λ ms. bind (gather (λ _ k. step_at T self_step current k) (λ _ _ ks. ks) (1 + 1) []) (λ rest. done (ms ++ rest)))
      (n ∷ []) (at_node current)
      ∙ answer_then (gather (λ _ k. step_at T self_step current k) (λ _ _ ks. ks) (1 + 1) []) (λ rest. done ((n ∷ []) ++ rest)) [] refl)
      ∙ ap Ok alone

pub dot_is_context : (T : Table) → Ordered T → DotIsContext T
unfolding done
dot_is_context T ord L c live =
    let s = self_step T ord c.node live in
    answer_visit (bind (start_nodes T L at_context c) (λ ns. bind (path T (s ∷ []) c.current ns) (λ ms. done (NodeSet ms))))
    ∙ answer_then (start_nodes T L at_context c) (λ ns. bind (path T (s ∷ []) c.current ns) (λ ms. done (NodeSet ms))) (c.node ∷ []) refl
    ∙ answer_then (path T (s ∷ []) c.current (c.node ∷ [])) (λ ms. done (NodeSet ms)) (c.node ∷ [])
    (answer_then (step_from T s c.current (c.node ∷ [])) (λ ms. path T [] c.current ms) (c.node ∷ []) (from_node T ord c.node live c.current))
