use Rattle.std.proofs.Common.{◌≡◌, ◌+◌, drop, length, [], ◌∷◌}
use Rattle.xp_typed_tree.specs.TypedView.{typed_tree_of, typed_seen, compared_list_seen, combined_list_seen, typed_steps_seen}
use Rattle.xp_outcome.specs.Evaluation.{done, bind}
use Rattle.xp_outcome.specs.Running.{Onto}
use Rattle.xp_outcome.proofs.Outcomes.{gathering}
use Rattle.doc_axes.specs.Sets.{in_order}
use Rattle.xp_meaning.specs.Conversions.{as_wanted}
use Rattle.xp_meaning.specs.Paths.{chosen, placed, kept, filtered, step_at, step_from, path}
use Rattle.xp_meaning.specs.Evaluation.{meaning, meanings, some_true, all_true, compared, combined, values, comparands_meant, combinands_meant, steps_meant}
use Rattle.xp_eval.specs.Steps.{step_meant}
use Rattle.xp_eval.specs.inner.Reaching.{nodes_reached}
use Rattle.xp_eval.specs.inner.Wants.{wanted_by}
use Rattle.xp_eval.proofs.evaluator.Evaluator.+evaluation.Given as goal

abbrev pub invariant-some_true-loop-operand : goal.invariant-some_true-loop-operand
invariant-some_true-loop-operand g l =
    Onto (some_true (meanings l.fn.self.caller.tree.now.nodes l.fn.self.lets.now (typed_seen l.operands)) l.at) l.initial.reads l.initial.steps
    (some_true (meanings l.fn.self.caller.tree.now.nodes l.fn.self.lets.now (typed_seen (drop l.operand-index l.operands))) l.at) l.reads l.steps

abbrev pub invariant-all_true-loop-operand : goal.invariant-all_true-loop-operand
invariant-all_true-loop-operand g l =
    Onto (all_true (meanings l.fn.self.caller.tree.now.nodes l.fn.self.lets.now (typed_seen l.operands)) l.at) l.initial.reads l.initial.steps
    (all_true (meanings l.fn.self.caller.tree.now.nodes l.fn.self.lets.now (typed_seen (drop l.operand-index l.operands))) l.at) l.reads l.steps

abbrev pub invariant-compare_rest-loop-operand : goal.invariant-compare_rest-loop-operand
invariant-compare_rest-loop-operand g l =
    Onto (compared l.fn.self.caller.tree.now.nodes (comparands_meant l.fn.self.caller.tree.now.nodes l.fn.self.lets.now (compared_list_seen l.rest)) l.initial.value l.at) l.initial.reads l.initial.steps
    (compared l.fn.self.caller.tree.now.nodes (comparands_meant l.fn.self.caller.tree.now.nodes l.fn.self.lets.now (compared_list_seen (drop l.operand-index l.rest))) l.value l.at) l.reads l.steps

abbrev pub invariant-combine_rest-loop-operand : goal.invariant-combine_rest-loop-operand
invariant-combine_rest-loop-operand g l =
    Onto (combined l.fn.self.caller.tree.now.nodes (combinands_meant l.fn.self.caller.tree.now.nodes l.fn.self.lets.now (combined_list_seen l.rest)) l.initial.number l.at) l.initial.reads l.initial.steps
    (combined l.fn.self.caller.tree.now.nodes (combinands_meant l.fn.self.caller.tree.now.nodes l.fn.self.lets.now (combined_list_seen (drop l.operand-index l.rest))) l.number l.at) l.reads l.steps

abbrev pub invariant-values-loop-place : goal.invariant-values-loop-place
invariant-values-loop-place g l =
    Onto (values l.fn.self.caller.tree.now.nodes (wanted_by l.function) (meanings l.fn.self.caller.tree.now.nodes l.fn.self.lets.now (typed_seen l.operands)) l.at) l.initial.reads l.initial.steps
    (gathering (λ i m. bind (m l.at) (λ v. as_wanted l.fn.self.caller.tree.now.nodes (wanted_by l.function i) v)) (λ _ _ v. v ∷ []) done l.values l.place
    (meanings l.fn.self.caller.tree.now.nodes l.fn.self.lets.now (typed_seen (drop l.place l.operands)))) l.reads l.steps

abbrev pub invariant-path_nodes-loop-step : goal.invariant-path_nodes-loop-step
invariant-path_nodes-loop-step g l =
    Onto (path l.fn.self.caller.tree.now.nodes (steps_meant l.fn.self.caller.tree.now.nodes l.fn.self.lets.now (typed_steps_seen l.path_steps)) l.current (nodes_reached l.initial.nodes)) l.initial.reads l.initial.steps
    (path l.fn.self.caller.tree.now.nodes (steps_meant l.fn.self.caller.tree.now.nodes l.fn.self.lets.now (typed_steps_seen (drop l.step-index l.path_steps))) l.current (nodes_reached l.nodes)) l.reads l.steps

abbrev pub invariant-step_from_each-loop-n : goal.invariant-step_from_each-loop-n
invariant-step_from_each-loop-n g l =
    Onto (step_from l.fn.self.caller.tree.now.nodes (step_meant l.fn.self.caller.tree.now.nodes l.fn.self.lets.now l.step) l.current l.nodes) l.initial.reads l.initial.steps
    (gathering (λ _ n. step_at l.fn.self.caller.tree.now.nodes (step_meant l.fn.self.caller.tree.now.nodes l.fn.self.lets.now l.step) l.current n) (λ _ _ ms. ms) (λ ms. done (in_order l.fn.self.caller.tree.now.nodes ms))
    l.selected (l.n-index + 1) (drop l.n-index l.nodes)) l.reads l.steps

abbrev pub invariant-filter-loop-predicate : goal.invariant-filter-loop-predicate
invariant-filter-loop-predicate g l =
    Onto (filtered (meanings l.fn.self.caller.tree.now.nodes l.fn.self.lets.now (typed_seen l.predicates)) l.current l.initial.nodes) l.initial.reads l.initial.steps
    (filtered (meanings l.fn.self.caller.tree.now.nodes l.fn.self.lets.now (typed_seen (drop l.predicate-index l.predicates))) l.current l.nodes) l.reads l.steps

abbrev pub invariant-keep-loop-n : goal.invariant-keep-loop-n
invariant-keep-loop-n g l = record {
  rest : Onto (kept (meaning l.fn.self.caller.tree.now.nodes l.fn.self.lets.now (typed_tree_of l.predicate)) l.current l.nodes) l.initial.reads l.initial.steps
      (gathering (λ position n. meaning l.fn.self.caller.tree.now.nodes l.fn.self.lets.now (typed_tree_of l.predicate) (placed l.current (length l.nodes) position n)) chosen done
      l.kept (l.n-index + 1) (drop l.n-index l.nodes)) l.reads l.steps;
  place : l.position ≡ l.n-index;
}
