use Rattle.std.specs.Prelude.{flat_map}
use Rattle.std.proofs.Common.{if◌then◌else◌, Bool, ℕ, ◌+◌, ◌∷◌, [], ◌++◌, List, drop, length, eqb-true, refl, sym, ◌∙◌, ap}
use Rattle.std.proofs.lemmas.List.{nil_from_length}
use Rattle.doc_axes.specs.Sets.{in_order}
use Rattle.xp_typed_tree.specs.declared.expr.Compared.{out-Compared}
use Rattle.xp_typed_tree.specs.declared.expr.TypedStep.{out-TypedStep}
use Rattle.xp_typed_tree.specs.TypedView.{typed_tree_of, typed_seen}
use Rattle.xp_outcome.specs.Evaluation.{Evaluation, done, bind, visit}
use Rattle.xp_outcome.proofs.Runs.{next_item, no_item, ran_alike, ran_bind, ran_stop, ran_done, ran_late, onto_alike, onto_bind, onto_stop, onto_done, onto_late, onto_end}
use Rattle.xp_values.specs.declared.values.Value.{Value}
use Rattle.xp_values.specs.declared.values.Value.TheVariants.{NodeSet, Truth, Number, Chars}
use Rattle.xp_values.specs.declared.values.EvalFault.{EvalFault}
use Rattle.xp_meaning.specs.Conversions.{nodes_of, compare_in, as_wanted}
use Rattle.xp_meaning.proofs.Exits.{exit_same, exit_memory, exit_fault, ran_given, ran_ticked, ran_done_at}
use Rattle.xp_meaning.specs.Paths.{Meaning, holds_at, chosen, placed, kept, filtered, step_at, step_from}
use Rattle.xp_meaning.specs.Functions.{applied, counted}
use Rattle.xp_meaning.specs.Evaluation.{meaning, meanings}
use Rattle.xp_eval.specs.Steps.{step_meant}
use Rattle.xp_eval.specs.inner.Reaching.{nodes_reached}
use Rattle.xp_eval.specs.inner.Wants.{wanted_by}
use Rattle.xp_eval.proofs.Loops.{some_true-next, some_true-end, all_true-next, all_true-end, filtered-next, filtered-end, compared-next, compared-end, combined-next, combined-end, path-next, path-end, path-alone, plain_at, plain_meant, filtered_none}
use Rattle.xp_eval.proofs.OneNode.{from_one, turned_in_order}
use Rattle.xp_eval.proofs.Places.{step-parted}
use Rattle.xp_eval.proofs.Handing.{ran_as, answered, ran_ok, ran_err, ran_reached}
use Rattle.xp_eval.proofs.Runs.{onto_goes, onto_stops, chosen_yes, chosen_no, gather_goes, gather_stops, gather_ends, gather_begins, gather_begins_alone, ran_given_fault, ran_given_ok, placed_is}
use Rattle.xp_eval.proofs.Views.{view-Or, view-And, view-Compare, view-Arith, view-Negate, view-Union, view-Path, view-Filter, view-Variable, view-Literal, literal_bound, view-Number, view-Call, view-Root, view-Here, view-From, view-current}
use Rattle.xp_eval.proofs.evaluator.Evaluator.+evaluation.Goals as goal

pub evaluate-returns-in-Or : goal.evaluate-returns-in-Or
evaluate-returns-in-Or g t c =
    ran_alike (view-Or c.args.self.now.caller.tree.now.nodes c.args.self.now.lets.now c.args.expr.now c.args.at.now _ c.deref.result.now c.in-Or.is c.deref.ensures.value) (ran_ticked c.tick.ensures (ran_as Truth c.some_true.result c.truth_value.ensures c.some_true.ensures))

pub evaluate-returns-in-And : goal.evaluate-returns-in-And
evaluate-returns-in-And g t c =
    ran_alike (view-And c.args.self.now.caller.tree.now.nodes c.args.self.now.lets.now c.args.expr.now c.args.at.now _ c.deref-in-And.result.now c.in-And.is c.deref-in-And.ensures.value) (ran_ticked c.tick.ensures (ran_as Truth c.all_true.result c.truth_value-in-And.ensures c.all_true.ensures))

pub evaluate-returns-in-Negate : goal.evaluate-returns-in-Negate
evaluate-returns-in-Negate g t c =
    ran_alike (view-Negate c.args.self.now.caller.tree.now.nodes c.args.self.now.lets.now c.args.expr.now c.args.at.now _ _ c.deref-in-Negate.result.now c.in-Negate.is c.deref-in-Negate.ensures) (ran_ticked c.tick.ensures c.negate_value.ensures)

pub evaluate-returns-in-Union : goal.evaluate-returns-in-Union
evaluate-returns-in-Union g t c =
    ran_alike (view-Union c.args.self.now.caller.tree.now.nodes c.args.self.now.lets.now c.args.expr.now c.args.at.now _ c.deref-in-Union.result.now c.in-Union.is c.deref-in-Union.ensures.value) (ran_ticked c.tick.ensures c.union_value.ensures)

pub evaluate-returns-in-Variable : goal.evaluate-returns-in-Variable
evaluate-returns-in-Variable g t c =
    ran_alike (view-Variable c.args.self.now.caller.tree.now.nodes c.args.self.now.lets.now c.args.expr.now c.args.at.now _ _ c.in-Variable.is) (ran_ticked c.tick.ensures (c.variable.ensures _))

pub evaluate-returns-in-Number : goal.evaluate-returns-in-Number
evaluate-returns-in-Number g t c =
    ran_alike (view-Number c.args.self.now.caller.tree.now.nodes c.args.self.now.lets.now c.args.expr.now c.args.at.now _ c.in-Number.is) (ran_ticked c.tick.ensures (ran_done_at _ _ _ c.whole_value.ensures))

pub evaluate-returns-in-Call : goal.evaluate-returns-in-Call
evaluate-returns-in-Call g t c =
    ran_alike (view-Call c.args.self.now.caller.tree.now.nodes c.args.self.now.lets.now c.args.expr.now c.args.at.now _ _ c.deref-in-Call.result.now c.in-Call.is c.deref-in-Call.ensures.value) (ran_ticked c.tick.ensures c.call_value.ensures)

pub evaluate-returns-in-Literal : goal.evaluate-returns-in-Literal
evaluate-returns-in-Literal g t c =
    ran_alike (view-Literal c.args.self.now.caller.tree.now.nodes c.args.self.now.lets.now c.args.expr.now c.args.at.now _ c.in-Literal.is) (ran_ticked c.tick.ensures (ran_given _ _ _ _ c.text_value.ensures))

pub evaluate-returns-in-Some : goal.evaluate-returns-in-Some
evaluate-returns-in-Some g t c =
    ran_alike (view-Compare c.args.self.now.caller.tree.now.nodes c.args.self.now.lets.now c.args.expr.now c.args.at.now _ _ c.deref-in-Compare.result.now c.deref-in-Compare-2.result.now c.in-Compare.is c.deref-in-Compare.ensures c.deref-in-Compare-2.ensures.value) (ran_ticked c.tick.ensures (ran_alike (c.in-Some.ensures c.args.self.now.lets.now c.args.at.now refl) c.compare_own.ensures))

pub evaluate-returns-in-Ok : goal.evaluate-returns-in-Ok
evaluate-returns-in-Ok g t c =
    ran_alike (view-Compare c.args.self.now.caller.tree.now.nodes c.args.self.now.lets.now c.args.expr.now c.args.at.now _ _ c.deref-in-Compare-3.result.now c.deref-in-Ok.result.now c.in-Compare.is c.deref-in-Compare-3.ensures c.deref-in-Ok.ensures.value) (ran_ticked c.tick.ensures (ran_bind _ c.in-Ok.ensures c.compare_rest.ensures))

pub evaluate-returns-in-Err : goal.evaluate-returns-in-Err
evaluate-returns-in-Err g t c =
    ran_alike (view-Compare c.args.self.now.caller.tree.now.nodes c.args.self.now.lets.now c.args.expr.now c.args.at.now _ _ c.deref-in-Compare-3.result.now _ c.in-Compare.is c.deref-in-Compare-3.ensures refl) (ran_ticked c.tick.ensures (ran_stop _ _ c.in-Err.ensures))

pub evaluate-returns-in-Ok-operand_number : goal.evaluate-returns-in-Ok-operand_number
evaluate-returns-in-Ok-operand_number g t c =
    ran_alike (view-Arith c.args.self.now.caller.tree.now.nodes c.args.self.now.lets.now c.args.expr.now c.args.at.now _ _ c.deref-in-Arith.result.now c.deref-in-Ok-operand_number.result.now c.in-Arith.is c.deref-in-Arith.ensures c.deref-in-Ok-operand_number.ensures.value) (ran_ticked c.tick.ensures (ran_bind _ c.in-Ok-operand_number.ensures (ran_as Number c.combine_rest.result c.number_value.ensures c.combine_rest.ensures)))

pub evaluate-returns-in-Err-operand_number : goal.evaluate-returns-in-Err-operand_number
evaluate-returns-in-Err-operand_number g t c =
    ran_alike (view-Arith c.args.self.now.caller.tree.now.nodes c.args.self.now.lets.now c.args.expr.now c.args.at.now _ _ c.deref-in-Arith.result.now _ c.in-Arith.is c.deref-in-Arith.ensures refl) (ran_ticked c.tick.ensures (ran_stop _ _ c.in-Err-operand_number.ensures))

pub evaluate-returns-in-Ok-start_nodes : goal.evaluate-returns-in-Ok-start_nodes
evaluate-returns-in-Ok-start_nodes g t c =
    ran_alike (view-Path c.args.self.now.caller.tree.now.nodes c.args.self.now.lets.now c.args.expr.now c.args.at.now c.in-Path.start _ c.deref-in-Ok-start_nodes.result.now c.in-Path.is c.deref-in-Ok-start_nodes.ensures.value) (ran_ticked c.tick.ensures (ran_bind _ c.in-Ok-start_nodes.ensures (ran_as NodeSet c.path_nodes.result c.set_value.ensures c.path_nodes.ensures)))

pub evaluate-returns-in-Err-start_nodes : goal.evaluate-returns-in-Err-start_nodes
evaluate-returns-in-Err-start_nodes g t c =
    ran_alike (view-Path c.args.self.now.caller.tree.now.nodes c.args.self.now.lets.now c.args.expr.now c.args.at.now c.in-Path.start _ _ c.in-Path.is refl) (ran_ticked c.tick.ensures (ran_stop _ _ c.in-Err-start_nodes.ensures))

pub evaluate-returns-in-Ok-operand_nodes : goal.evaluate-returns-in-Ok-operand_nodes
evaluate-returns-in-Ok-operand_nodes g t c =
    ran_alike (view-Filter c.args.self.now.caller.tree.now.nodes c.args.self.now.lets.now c.args.expr.now c.args.at.now _ _ c.deref-in-Filter.result.now c.deref-in-Ok-operand_nodes.result.now c.in-Filter.is c.deref-in-Filter.ensures c.deref-in-Ok-operand_nodes.ensures.value) (ran_ticked c.tick.ensures (ran_bind _ c.in-Ok-operand_nodes.ensures (ran_as NodeSet c.filter.result c.set_value-in-Ok-operand_nodes.ensures c.filter.ensures)))

pub evaluate-returns-in-Err-operand_nodes : goal.evaluate-returns-in-Err-operand_nodes
evaluate-returns-in-Err-operand_nodes g t c =
    ran_alike (view-Filter c.args.self.now.caller.tree.now.nodes c.args.self.now.lets.now c.args.expr.now c.args.at.now _ _ c.deref-in-Filter.result.now _ c.in-Filter.is c.deref-in-Filter.ensures refl) (ran_ticked c.tick.ensures (ran_stop _ _ c.in-Err-operand_nodes.ensures))

pub some_true-returns : goal.some_true-returns
some_true-returns g t c =
    onto_done (onto_alike (some_true-end c.args.self.now.caller.tree.now.nodes c.args.self.now.lets.now c.args.operands.now c.loop-operand.operand-index c.args.at.now c.loop-operand-test.false) c.loop-operand.invariant)

pub some_true-returns-in_err-value : goal.some_true-returns-in_err-value
some_true-returns-in_err-value g t c =
    exit_same _ _ c.from_residual.ensures.1 (onto_stops _ _ (some_true-next c.args.self.now.caller.tree.now.nodes c.args.self.now.lets.now c.args.operands.now c.loop-operand.operand-index c.args.at.now c.operand-item.result c.loop-operand-test.true c.operand-item.is) _ c.loop-operand.invariant c.in_err-value.ensures)

pub some_true-returns-then-to_truth : goal.some_true-returns-then-to_truth
some_true-returns-then-to_truth g t c =
    onto_done (onto_alike (chosen_yes _ _ _ (sym c.to_truth.ensures ∙ c.if-to_truth.true)) (onto_goes _ _ (some_true-next c.args.self.now.caller.tree.now.nodes c.args.self.now.lets.now c.args.operands.now c.loop-operand.operand-index c.args.at.now c.operand-item.result c.loop-operand-test.true c.operand-item.is) c.loop-operand.invariant c.in_ok-value.ensures))

pub some_true-loop-operand-preserved : goal.some_true-loop-operand-preserved
some_true-loop-operand-preserved g t c =
    onto_alike (chosen_no _ _ _ (sym c.to_truth.ensures ∙ c.if-to_truth.false)) (onto_goes _ _ (some_true-next c.args.self.now.caller.tree.now.nodes c.args.self.now.lets.now c.args.operands.now c.loop-operand.operand-index c.args.at.now c.operand-item.result c.loop-operand-test.true c.operand-item.is) c.loop-operand.invariant c.in_ok-value.ensures)

pub all_true-returns : goal.all_true-returns
all_true-returns g t c =
    onto_done (onto_alike (all_true-end c.args.self.now.caller.tree.now.nodes c.args.self.now.lets.now c.args.operands.now c.loop-operand.operand-index c.args.at.now c.loop-operand-test.false) c.loop-operand.invariant)

pub all_true-returns-in_err-value : goal.all_true-returns-in_err-value
all_true-returns-in_err-value g t c =
    exit_same _ _ c.from_residual.ensures.1 (onto_stops _ _ (all_true-next c.args.self.now.caller.tree.now.nodes c.args.self.now.lets.now c.args.operands.now c.loop-operand.operand-index c.args.at.now c.operand-item.result c.loop-operand-test.true c.operand-item.is) _ c.loop-operand.invariant c.in_err-value.ensures)

pub all_true-returns-then-not-to_truth : goal.all_true-returns-then-not-to_truth
all_true-returns-then-not-to_truth g t c =
    onto_done (onto_alike (chosen_no _ _ _ (sym c.to_truth.ensures ∙ c.if-not-to_truth.true)) (onto_goes _ _ (all_true-next c.args.self.now.caller.tree.now.nodes c.args.self.now.lets.now c.args.operands.now c.loop-operand.operand-index c.args.at.now c.operand-item.result c.loop-operand-test.true c.operand-item.is) c.loop-operand.invariant c.in_ok-value.ensures))

pub all_true-loop-operand-preserved : goal.all_true-loop-operand-preserved
all_true-loop-operand-preserved g t c =
    onto_alike (chosen_yes _ _ _ (sym c.to_truth.ensures ∙ c.if-not-to_truth.false)) (onto_goes _ _ (all_true-next c.args.self.now.caller.tree.now.nodes c.args.self.now.lets.now c.args.operands.now c.loop-operand.operand-index c.args.at.now c.operand-item.result c.loop-operand-test.true c.operand-item.is) c.loop-operand.invariant c.in_ok-value.ensures)

pub compare_rest-returns-in_err-truth : goal.compare_rest-returns-in_err-truth
compare_rest-returns-in_err-truth g t c =
    exit_same _ _ c.from_residual.ensures.1 (onto_stops _ _ (compared-next c.args.self.now.caller.tree.now.nodes c.args.self.now.lets.now c.args.rest.now c.loop-operand.operand-index c.args.at.now c.loop-operand.value c.operand-item.result c.loop-operand-test.true c.operand-item.is) _ c.loop-operand.invariant c.in_err-truth.ensures)

pub compare_rest-loop-operand-preserved : goal.compare_rest-loop-operand-preserved
compare_rest-loop-operand-preserved g t c =
    onto_goes _ _ (compared-next c.args.self.now.caller.tree.now.nodes c.args.self.now.lets.now c.args.rest.now c.loop-operand.operand-index c.args.at.now c.loop-operand.value c.operand-item.result c.loop-operand-test.true c.operand-item.is) c.loop-operand.invariant c.in_ok-truth.ensures

pub compare_rest-returns : goal.compare_rest-returns
compare_rest-returns g t c =
    onto_done (onto_alike (compared-end c.args.self.now.caller.tree.now.nodes c.args.self.now.lets.now c.args.rest.now c.loop-operand.operand-index c.args.at.now c.loop-operand.value c.loop-operand-test.false) c.loop-operand.invariant)

pub compare_operand-returns-in-Literal : goal.compare_operand-returns-in-Literal
compare_operand-returns-in-Literal g t c =
    let e = (out-Compared c.args.operand.now).expr in
    let next : Value → Evaluation EvalFault Bool = λ w. compare_in c.args.self.now.caller.tree.now.nodes (out-Compared c.args.operand.now).operator c.args.value.now w in
    ran_alike (literal_bound c.args.self.now.caller.tree.now.nodes c.args.self.now.lets.now e c.args.at.now next _ c.in-Literal.is)
    (ran_ticked c.tick.ensures (ran_alike (ap (λ s. next (Chars s)) (sym c.as_str.ensures)) c.compare_text_in.ensures))

pub compare_operand-returns-in-Err : goal.compare_operand-returns-in-Err
compare_operand-returns-in-Err g t c =
    ran_stop _ _ c.in-Err.ensures

pub compare_operand-returns-in-Ok : goal.compare_operand-returns-in-Ok
compare_operand-returns-in-Ok g t c =
    ran_bind _ c.in-Ok.ensures c.compare_in.ensures

pub negate_value-returns-in_err-negate-in-Ok : goal.negate_value-returns-in_err-negate-in-Ok
negate_value-returns-in_err-negate-in-Ok g t c =
    exit_fault _ _ c.from_residual.ensures.1 (ran_bind _ c.in-Ok.ensures (ran_stop _ _ (ran_given_fault _ _ _ _ (sym c.in_err-negate-in-Ok.ensures))))

pub negate_value-returns-in_ok-negate-in-Ok : goal.negate_value-returns-in_ok-negate-in-Ok
negate_value-returns-in_ok-negate-in-Ok g t c =
    ran_bind _ c.in-Ok.ensures (ran_bind _ (ran_given_ok _ _ _ _ (sym c.in_ok-negate-in-Ok.ensures)) (ran_done _ _ _))

pub negate_value-returns-in-Err : goal.negate_value-returns-in-Err
negate_value-returns-in-Err g t c =
    ran_stop _ _ c.in-Err.ensures

pub combine_rest-returns-in_err-right : goal.combine_rest-returns-in_err-right
combine_rest-returns-in_err-right g t c =
    exit_same _ _ c.from_residual.ensures.1 (onto_stops _ _ (combined-next c.args.self.now.caller.tree.now.nodes c.args.self.now.lets.now c.args.rest.now c.loop-operand.operand-index c.args.at.now c.loop-operand.number c.operand-item.result c.loop-operand-test.true c.operand-item.is) _ c.loop-operand.invariant c.in_err-right.ensures)

pub combine_rest-returns-in_err-number : goal.combine_rest-returns-in_err-number
combine_rest-returns-in_err-number g t c =
    exit_fault _ _ c.from_residual-in_err-number.ensures.1 (onto_stop _ _ (onto_goes _ _ (combined-next c.args.self.now.caller.tree.now.nodes c.args.self.now.lets.now c.args.rest.now c.loop-operand.operand-index c.args.at.now c.loop-operand.number c.operand-item.result c.loop-operand-test.true c.operand-item.is) c.loop-operand.invariant c.in_ok-right.ensures) (ran_given_fault _ _ _ _ (sym c.in_err-number.ensures.value)))

pub combine_rest-loop-operand-preserved : goal.combine_rest-loop-operand-preserved
combine_rest-loop-operand-preserved g t c =
    onto_bind _ (onto_goes _ _ (combined-next c.args.self.now.caller.tree.now.nodes c.args.self.now.lets.now c.args.rest.now c.loop-operand.operand-index c.args.at.now c.loop-operand.number c.operand-item.result c.loop-operand-test.true c.operand-item.is) c.loop-operand.invariant c.in_ok-right.ensures) (ran_given_ok _ _ _ _ (sym c.in_ok-number.ensures.value))

pub combine_rest-returns : goal.combine_rest-returns
combine_rest-returns g t c =
    onto_done (onto_alike (combined-end c.args.self.now.caller.tree.now.nodes c.args.self.now.lets.now c.args.rest.now c.loop-operand.operand-index c.args.at.now c.loop-operand.number c.loop-operand-test.false) c.loop-operand.invariant)

pub operand_number-returns-in-Err : goal.operand_number-returns-in-Err
operand_number-returns-in-Err g t c =
    ran_stop _ _ c.in-Err.ensures

pub operand_number-returns-in-Ok : goal.operand_number-returns-in-Ok
operand_number-returns-in-Ok g t c =
    ran_bind _ c.in-Ok.ensures c.number_in.ensures

pub operand_nodes-returns : goal.operand_nodes-returns
operand_nodes-returns g t c =
    ran_as nodes_of c.evaluate.result c.nodes_in.ensures c.evaluate.ensures

pub union_value-returns-in-Err : goal.union_value-returns-in-Err
union_value-returns-in-Err g t c =
    ran_stop _ _ c.in-Err.ensures

pub union_value-returns-in-Ok : goal.union_value-returns-in-Ok
union_value-returns-in-Ok g t c =
    ran_bind _ c.in-Ok.ensures
    (ran_alike (ap (λ vs. done {F = EvalFault} (NodeSet (in_order c.args.self.now.caller.tree.now.nodes (flat_map nodes_of vs)))) (sym c.as_slice.ensures)) (ran_given _ _ _ _ c.union_of.ensures))

pub call_value-returns-in-Some : goal.call_value-returns-in-Some
call_value-returns-in-Some g t c =
    let T = c.args.self.now.caller.tree.now.nodes in
    ran_alike (ap (λ m. bind m (λ vs. applied T c.args.function c.args.at.now vs)) (c.in-Some.ensures T c.args.self.now.lets.now c.args.at.now)) c.call_on_let.ensures

pub call_value-returns-in-Err : goal.call_value-returns-in-Err
call_value-returns-in-Err g t c =
    ran_stop _ _ c.in-Err.ensures

pub call_value-returns-in-Ok : goal.call_value-returns-in-Ok
call_value-returns-in-Ok g t c =
    ran_bind _ c.in-Ok.ensures (ran_alike (ap (λ vs. applied c.args.self.now.caller.tree.now.nodes c.args.function c.args.at.now vs) (sym c.as_slice.ensures)) c.apply.ensures)

pub values-loop-place-init : goal.values-loop-place-init
values-loop-place-init g t c =
    gather_begins_alone (λ i m. bind (m c.args.at.now) (λ v. as_wanted c.args.self.now.caller.tree.now.nodes (wanted_by c.args.function i) v)) (λ (_ : ℕ) (_ : Meaning) (v : Value). v ∷ []) _ 0 (meanings c.args.self.now.caller.tree.now.nodes c.args.self.now.lets.now (typed_seen c.args.operands.now)) c.new-values.ensures

pub values-returns-in_err-value : goal.values-returns-in_err-value
values-returns-in_err-value g t c =
    exit_same _ _ c.from_residual.ensures.1 (gather_stops (λ i m. bind (m c.args.at.now) (λ v. as_wanted c.args.self.now.caller.tree.now.nodes (wanted_by c.args.function i) v)) (λ (_ : ℕ) (_ : Meaning) (v : Value). v ∷ []) done c.loop-place.values c.loop-place.place (meanings c.args.self.now.caller.tree.now.nodes c.args.self.now.lets.now (typed_seen (drop c.loop-place.place c.args.operands.now))) (meaning c.args.self.now.caller.tree.now.nodes c.args.self.now.lets.now (typed_tree_of c.index-operands-place.result)) (meanings c.args.self.now.caller.tree.now.nodes c.args.self.now.lets.now (typed_seen (drop (c.loop-place.place + 1) c.args.operands.now))) (ap (λ es. meanings c.args.self.now.caller.tree.now.nodes c.args.self.now.lets.now (typed_seen es)) (next_item c.args.operands.now c.loop-place.place c.index-operands-place.result c.loop-place-test.true c.index-operands-place.is)) _ c.loop-place.invariant (ran_stop _ _ c.in_err-value.ensures))

pub values-returns-in_err-value-2 : goal.values-returns-in_err-value-2
values-returns-in_err-value-2 g t c =
    exit_same _ _ c.from_residual-in_err-value-2.ensures.1 (gather_stops (λ i m. bind (m c.args.at.now) (λ v. as_wanted c.args.self.now.caller.tree.now.nodes (wanted_by c.args.function i) v)) (λ (_ : ℕ) (_ : Meaning) (v : Value). v ∷ []) done c.loop-place.values c.loop-place.place (meanings c.args.self.now.caller.tree.now.nodes c.args.self.now.lets.now (typed_seen (drop c.loop-place.place c.args.operands.now))) (meaning c.args.self.now.caller.tree.now.nodes c.args.self.now.lets.now (typed_tree_of c.index-operands-place.result)) (meanings c.args.self.now.caller.tree.now.nodes c.args.self.now.lets.now (typed_seen (drop (c.loop-place.place + 1) c.args.operands.now))) (ap (λ es. meanings c.args.self.now.caller.tree.now.nodes c.args.self.now.lets.now (typed_seen es)) (next_item c.args.operands.now c.loop-place.place c.index-operands-place.result c.loop-place-test.true c.index-operands-place.is)) _ c.loop-place.invariant (ran_bind _ c.in_ok-value.ensures (ran_alike (ap (λ w. as_wanted c.args.self.now.caller.tree.now.nodes w c.in_ok-value.value) (sym c.wanted_by-want.ensures)) c.in_err-value-2.ensures)))

pub values-returns-in_err-push : goal.values-returns-in_err-push
values-returns-in_err-push g t c =
    exit_memory _ c.from_residual-in_err-push.ensures.1 (onto_late (gather_goes (λ i m. bind (m c.args.at.now) (λ v. as_wanted c.args.self.now.caller.tree.now.nodes (wanted_by c.args.function i) v)) (λ (_ : ℕ) (_ : Meaning) (v : Value). v ∷ []) done c.loop-place.values c.loop-place.place (meanings c.args.self.now.caller.tree.now.nodes c.args.self.now.lets.now (typed_seen (drop c.loop-place.place c.args.operands.now))) (meaning c.args.self.now.caller.tree.now.nodes c.args.self.now.lets.now (typed_tree_of c.index-operands-place.result)) (meanings c.args.self.now.caller.tree.now.nodes c.args.self.now.lets.now (typed_seen (drop (c.loop-place.place + 1) c.args.operands.now))) (ap (λ es. meanings c.args.self.now.caller.tree.now.nodes c.args.self.now.lets.now (typed_seen es)) (next_item c.args.operands.now c.loop-place.place c.index-operands-place.result c.loop-place-test.true c.index-operands-place.is)) refl c.loop-place.invariant (ran_bind _ c.in_ok-value.ensures (ran_alike (ap (λ w. as_wanted c.args.self.now.caller.tree.now.nodes w c.in_ok-value.value) (sym c.wanted_by-want.ensures)) c.in_ok-value-2.ensures))))

pub values-loop-place-preserved : goal.values-loop-place-preserved
values-loop-place-preserved g t c =
    gather_goes (λ i m. bind (m c.args.at.now) (λ v. as_wanted c.args.self.now.caller.tree.now.nodes (wanted_by c.args.function i) v)) (λ (_ : ℕ) (_ : Meaning) (v : Value). v ∷ []) done c.loop-place.values c.loop-place.place (meanings c.args.self.now.caller.tree.now.nodes c.args.self.now.lets.now (typed_seen (drop c.loop-place.place c.args.operands.now))) (meaning c.args.self.now.caller.tree.now.nodes c.args.self.now.lets.now (typed_tree_of c.index-operands-place.result)) (meanings c.args.self.now.caller.tree.now.nodes c.args.self.now.lets.now (typed_seen (drop (c.loop-place.place + 1) c.args.operands.now))) (ap (λ es. meanings c.args.self.now.caller.tree.now.nodes c.args.self.now.lets.now (typed_seen es)) (next_item c.args.operands.now c.loop-place.place c.index-operands-place.result c.loop-place-test.true c.index-operands-place.is)) c.in_ok-push.ensures.pushed c.loop-place.invariant (ran_bind _ c.in_ok-value.ensures (ran_alike (ap (λ w. as_wanted c.args.self.now.caller.tree.now.nodes w c.in_ok-value.value) (sym c.wanted_by-want.ensures)) c.in_ok-value-2.ensures))

pub values-returns : goal.values-returns
values-returns g t c =
    onto_done (gather_ends (λ i m. bind (m c.args.at.now) (λ v. as_wanted c.args.self.now.caller.tree.now.nodes (wanted_by c.args.function i) v)) (λ (_ : ℕ) (_ : Meaning) (v : Value). v ∷ []) done c.loop-place.values c.loop-place.place (meanings c.args.self.now.caller.tree.now.nodes c.args.self.now.lets.now (typed_seen (drop c.loop-place.place c.args.operands.now))) (ap (λ es. meanings c.args.self.now.caller.tree.now.nodes c.args.self.now.lets.now (typed_seen es)) (no_item c.args.operands.now c.loop-place.place c.loop-place-test.false)) c.loop-place.invariant)

pub start_nodes-returns-in-Root : goal.start_nodes-returns-in-Root
start_nodes-returns-in-Root g t c =
    ran_alike (view-Root c.args.self.now.caller.tree.now.nodes c.args.self.now.lets.now c.args.start.now c.args.at.now c.in-Root.is) (ran_done_at _ _ _ (ap (λ n. n ∷ []) c.root.ensures))

pub start_nodes-returns-in-Here : goal.start_nodes-returns-in-Here
start_nodes-returns-in-Here g t c =
    ran_alike (view-Here c.args.self.now.caller.tree.now.nodes c.args.self.now.lets.now c.args.start.now c.args.at.now c.in-Here.is) (ran_done _ _ _)

pub start_nodes-returns-then-is_current : goal.start_nodes-returns-then-is_current
start_nodes-returns-then-is_current g t c =
    let T = c.args.self.now.caller.tree.now.nodes in
    let L = c.args.self.now.lets.now in
    ran_alike (view-current T L c.args.start.now c.args.at.now _ c.deref.result.now c.in-From.is c.deref.ensures (c.is_current.ensures c.if-is_current.true T L c.args.at.now))
    (ran_ticked c.tick.ensures (ran_done _ _ _))

pub start_nodes-returns-else-is_current : goal.start_nodes-returns-else-is_current
start_nodes-returns-else-is_current g t c =
    ran_alike (view-From c.args.self.now.caller.tree.now.nodes c.args.self.now.lets.now c.args.start.now c.args.at.now _ c.deref-in-From.result.now c.in-From.is c.deref-in-From.ensures)
    (ran_reached c.operand_nodes.result c.reached_set.ensures c.operand_nodes.ensures)

pub path_nodes-returns-in-Some : goal.path_nodes-returns-in-Some
path_nodes-returns-in-Some g t c =
    let T = c.args.self.now.caller.tree.now.nodes in
    let L = c.args.self.now.lets.now in
    ran_alike (path-alone T L c.args.path_steps.now c.args.current (nodes_reached c.args.begin) c.in-Some.only.step.now c.in-Some.ensures.step
    ∙ ap (λ ns. step_from T (step_meant T L c.in-Some.only.step.now) c.args.current ns) c.in-Some.ensures.node) c.step_from_one.ensures

pub path_nodes-returns-in_err-selected : goal.path_nodes-returns-in_err-selected
path_nodes-returns-in_err-selected g t c =
    exit_same _ _ c.from_residual.ensures.1 (onto_stops _ _ (path-next c.args.self.now.caller.tree.now.nodes c.args.self.now.lets.now c.args.path_steps.now c.loop-step.step-index c.args.current (nodes_reached c.loop-step.nodes) c.step-item.result c.loop-step-test.true c.step-item.is) _ c.loop-step.invariant (ran_alike (ap (λ ns. step_from c.args.self.now.caller.tree.now.nodes (step_meant c.args.self.now.caller.tree.now.nodes c.args.self.now.lets.now c.step-item.result) c.args.current ns) (sym c.as_slice.ensures)) c.in_err-selected.ensures))

pub path_nodes-loop-step-preserved : goal.path_nodes-loop-step-preserved
path_nodes-loop-step-preserved g t c =
    onto_goes _ _ (path-next c.args.self.now.caller.tree.now.nodes c.args.self.now.lets.now c.args.path_steps.now c.loop-step.step-index c.args.current (nodes_reached c.loop-step.nodes) c.step-item.result c.loop-step-test.true c.step-item.is) c.loop-step.invariant (ran_alike (ap (λ ns. step_from c.args.self.now.caller.tree.now.nodes (step_meant c.args.self.now.caller.tree.now.nodes c.args.self.now.lets.now c.step-item.result) c.args.current ns) (sym c.as_slice.ensures)) c.in_ok-selected.ensures)

pub path_nodes-returns : goal.path_nodes-returns
path_nodes-returns g t c =
    onto_end (onto_alike (path-end c.args.self.now.caller.tree.now.nodes c.args.self.now.lets.now c.args.path_steps.now c.loop-step.step-index c.args.current (nodes_reached c.loop-step.nodes) c.loop-step-test.false) c.loop-step.invariant)
    (ran_given _ _ _ _ c.into_list.ensures)

pub step_from_one-returns-in-Err : goal.step_from_one-returns-in-Err
step_from_one-returns-in-Err g t c =
    ran_alike (from_one c.args.self.now.caller.tree.now.nodes (step_meant c.args.self.now.caller.tree.now.nodes c.args.self.now.lets.now c.args.step.now) c.args.current c.args.n) (ran_stop _ _ c.in-Err.ensures)

pub step_from_one-returns-in-Ok : goal.step_from_one-returns-in-Ok
step_from_one-returns-in-Ok g t c =
    ran_alike (from_one c.args.self.now.caller.tree.now.nodes (step_meant c.args.self.now.caller.tree.now.nodes c.args.self.now.lets.now c.args.step.now) c.args.current c.args.n)
    (ran_bind _ c.in-Ok.ensures (ran_done_at _ _ _ (c.to_document_order.ensures ∙ turned_in_order c.args.self.now.caller.tree.now.nodes (step_meant c.args.self.now.caller.tree.now.nodes c.args.self.now.lets.now c.args.step.now) c.args.current c.args.n c.laws.ensures.ordered c.in-Ok.nodes c.in-Ok.ensures)))

pub step_set-returns-in-Some : goal.step_set-returns-in-Some
step_set-returns-in-Some g t c =
    ran_alike (ap (λ ns. step_from c.args.self.now.caller.tree.now.nodes (step_meant c.args.self.now.caller.tree.now.nodes c.args.self.now.lets.now c.args.step.now) c.args.current ns) c.in-Some.ensures) c.step_from_one.ensures

pub step_set-returns-then-is_plain : goal.step_set-returns-then-is_plain
step_set-returns-then-is_plain g t c =
    ran_alike (plain_meant c.args.self.now.caller.tree.now.nodes c.args.self.now.lets.now c.args.step.now c.args.current c.args.nodes.now (c.is_plain.ensures c.if-is_plain.true)) c.plain_step.ensures

pub step_set-returns-else-is_plain : goal.step_set-returns-else-is_plain
step_set-returns-else-is_plain g t c =
    c.step_from_each.ensures

pub step_from_each-loop-n-init : goal.step_from_each-loop-n-init
step_from_each-loop-n-init g t c =
    gather_begins (λ (_ : ℕ) (n : ℕ). step_at c.args.self.now.caller.tree.now.nodes (step_meant c.args.self.now.caller.tree.now.nodes c.args.self.now.lets.now c.args.step.now) c.args.current n) (λ (_ : ℕ) (_ : ℕ) (ms : List ℕ). ms) (λ ms. done (in_order c.args.self.now.caller.tree.now.nodes ms)) _ 1 c.args.nodes.now c.new-selected.ensures

pub step_from_each-returns-in_err-found : goal.step_from_each-returns-in_err-found
step_from_each-returns-in_err-found g t c =
    exit_same _ _ c.from_residual.ensures.1 (gather_stops (λ (_ : ℕ) (n : ℕ). step_at c.args.self.now.caller.tree.now.nodes (step_meant c.args.self.now.caller.tree.now.nodes c.args.self.now.lets.now c.args.step.now) c.args.current n) (λ (_ : ℕ) (_ : ℕ) (ms : List ℕ). ms) (λ ms. done (in_order c.args.self.now.caller.tree.now.nodes ms)) c.loop-n.selected (c.loop-n.n-index + 1) (drop c.loop-n.n-index c.args.nodes.now) c.n-item.result (drop (c.loop-n.n-index + 1) c.args.nodes.now) (next_item c.args.nodes.now c.loop-n.n-index c.n-item.result c.loop-n-test.true c.n-item.is) _ c.loop-n.invariant c.in_err-found.ensures)

pub step_from_each-returns-in_err-selected : goal.step_from_each-returns-in_err-selected
step_from_each-returns-in_err-selected g t c =
    exit_memory _ c.from_residual-in_err-selected.ensures.1 (onto_late (gather_goes (λ (_ : ℕ) (n : ℕ). step_at c.args.self.now.caller.tree.now.nodes (step_meant c.args.self.now.caller.tree.now.nodes c.args.self.now.lets.now c.args.step.now) c.args.current n) (λ (_ : ℕ) (_ : ℕ) (ms : List ℕ). ms) (λ ms. done (in_order c.args.self.now.caller.tree.now.nodes ms)) c.loop-n.selected (c.loop-n.n-index + 1) (drop c.loop-n.n-index c.args.nodes.now) c.n-item.result (drop (c.loop-n.n-index + 1) c.args.nodes.now) (next_item c.args.nodes.now c.loop-n.n-index c.n-item.result c.loop-n-test.true c.n-item.is) refl c.loop-n.invariant c.in_ok-found.ensures))

pub step_from_each-loop-n-preserved : goal.step_from_each-loop-n-preserved
step_from_each-loop-n-preserved g t c =
    gather_goes (λ (_ : ℕ) (n : ℕ). step_at c.args.self.now.caller.tree.now.nodes (step_meant c.args.self.now.caller.tree.now.nodes c.args.self.now.lets.now c.args.step.now) c.args.current n) (λ (_ : ℕ) (_ : ℕ) (ms : List ℕ). ms) (λ ms. done (in_order c.args.self.now.caller.tree.now.nodes ms)) c.loop-n.selected (c.loop-n.n-index + 1) (drop c.loop-n.n-index c.args.nodes.now) c.n-item.result (drop (c.loop-n.n-index + 1) c.args.nodes.now) (next_item c.args.nodes.now c.loop-n.n-index c.n-item.result c.loop-n-test.true c.n-item.is) c.in_ok-selected.ensures c.loop-n.invariant c.in_ok-found.ensures

pub step_from_each-returns : goal.step_from_each-returns
step_from_each-returns g t c =
    onto_end (gather_ends (λ (_ : ℕ) (n : ℕ). step_at c.args.self.now.caller.tree.now.nodes (step_meant c.args.self.now.caller.tree.now.nodes c.args.self.now.lets.now c.args.step.now) c.args.current n) (λ (_ : ℕ) (_ : ℕ) (ms : List ℕ). ms) (λ ms. done (in_order c.args.self.now.caller.tree.now.nodes ms)) c.loop-n.selected (c.loop-n.n-index + 1) (drop c.loop-n.n-index c.args.nodes.now) (no_item c.args.nodes.now c.loop-n.n-index c.loop-n-test.false) c.loop-n.invariant) (ran_given _ _ _ _ c.in_document_order.ensures)

pub step_at-returns-then-is_plain : goal.step_at-returns-then-is_plain
step_at-returns-then-is_plain g t c =
    ran_alike (plain_at c.args.self.now.caller.tree.now.nodes c.args.self.now.lets.now c.args.step.now c.args.current c.args.n (c.is_plain.ensures c.if-is_plain.true)) c.candidates.ensures

pub step_at-returns-then-is_empty : goal.step_at-returns-then-is_empty
step_at-returns-then-is_empty g t c =
    ran_bind _ c.in-Ok.ensures
    (ran_alike (filtered_none (meanings c.args.self.now.caller.tree.now.nodes c.args.self.now.lets.now (typed_seen (out-TypedStep c.args.step.now).predicates.items)) c.args.current c.in-Ok.nodes
    (nil_from_length c.in-Ok.nodes (eqb-true _ 0 (sym c.is_empty.ensures ∙ c.if-is_empty.true)))) (ran_done _ _ _))

pub step_at-returns-else-is_empty : goal.step_at-returns-else-is_empty
step_at-returns-else-is_empty g t c =
    ran_bind _ c.in-Ok.ensures (ran_alike (ap (λ ps. filtered (meanings c.args.self.now.caller.tree.now.nodes c.args.self.now.lets.now (typed_seen ps)) c.args.current c.in-Ok.nodes) (sym c.deref.ensures.value)) c.filter.ensures)

pub step_at-returns-in-Err : goal.step_at-returns-in-Err
step_at-returns-in-Err g t c =
    ran_stop _ _ c.in-Err.ensures

pub filter-returns-in_err-nodes : goal.filter-returns-in_err-nodes
filter-returns-in_err-nodes g t c =
    exit_same _ _ c.from_residual.ensures.1 (onto_stops _ _ (filtered-next c.args.self.now.caller.tree.now.nodes c.args.self.now.lets.now c.args.predicates.now c.loop-predicate.predicate-index c.args.current c.loop-predicate.nodes c.predicate-item.result c.loop-predicate-test.true c.predicate-item.is) _ c.loop-predicate.invariant (ran_alike (ap (λ ns. kept (meaning c.args.self.now.caller.tree.now.nodes c.args.self.now.lets.now (typed_tree_of c.predicate-item.result)) c.args.current ns) (sym c.as_slice.ensures)) c.in_err-nodes.ensures))

pub filter-loop-predicate-preserved : goal.filter-loop-predicate-preserved
filter-loop-predicate-preserved g t c =
    onto_goes _ _ (filtered-next c.args.self.now.caller.tree.now.nodes c.args.self.now.lets.now c.args.predicates.now c.loop-predicate.predicate-index c.args.current c.loop-predicate.nodes c.predicate-item.result c.loop-predicate-test.true c.predicate-item.is) c.loop-predicate.invariant (ran_alike (ap (λ ns. kept (meaning c.args.self.now.caller.tree.now.nodes c.args.self.now.lets.now (typed_tree_of c.predicate-item.result)) c.args.current ns) (sym c.as_slice.ensures)) c.in_ok-nodes.ensures)

pub filter-returns : goal.filter-returns
filter-returns g t c =
    onto_done (onto_alike (filtered-end c.args.self.now.caller.tree.now.nodes c.args.self.now.lets.now c.args.predicates.now c.loop-predicate.predicate-index c.args.current c.loop-predicate.nodes c.loop-predicate-test.false) c.loop-predicate.invariant)

pub keep_by-returns-in-Some : goal.keep_by-returns-in-Some
keep_by-returns-in-Some g t c =
    c.keep_at.ensures (meaning c.args.self.now.caller.tree.now.nodes c.args.self.now.lets.now (typed_tree_of c.args.predicate.now)) c.args.current c.args.reads.now
    (λ position n. c.in-Some.ensures c.args.self.now.caller.tree.now.nodes c.args.self.now.lets.now (placed c.args.current (length c.args.nodes.now) position n)
    ∙ ap (λ (place : ℕ). visit (done (counted place))) (sym c.place.ensures))

pub step_to_place-returns-in-Ok : goal.step_to_place-returns-in-Ok
step_to_place-returns-in-Ok g t c =
    let T = c.args.self.now.caller.tree.now.nodes in
    let L = c.args.self.now.lets.now in
    ran_alike (step-parted T L c.args.step.now c.args.current c.args.n c.requires.first c.requires.rest c.requires.predicates)
    (ran_bind (λ ks. filtered (meanings T L (typed_seen c.requires.rest)) c.args.current ks)
    (c.in-Ok.ensures (meaning T L (typed_tree_of c.requires.first)) c.args.current (c.requires.keeps L c.args.current))
    (ran_alike (ap (λ ps. filtered (meanings T L (typed_seen ps)) c.args.current c.in-Ok.nodes) (sym (c.behind_first-others.ensures c.requires.first c.requires.rest (c.deref.ensures.value ∙ c.requires.predicates)))) c.filter.ensures))

pub step_to_place-returns-in-Err : goal.step_to_place-returns-in-Err
step_to_place-returns-in-Err g t c =
    let T = c.args.self.now.caller.tree.now.nodes in
    let L = c.args.self.now.lets.now in
    ran_alike (step-parted T L c.args.step.now c.args.current c.args.n c.requires.first c.requires.rest c.requires.predicates)
    (ran_stop _ _ (c.in-Err.ensures (meaning T L (typed_tree_of c.requires.first)) c.args.current (c.requires.keeps L c.args.current)))

pub keep-returns-in_err-size : goal.keep-returns-in_err-size
keep-returns-in_err-size g t c =
    exit_memory _ c.from_residual.ensures.1 (ran_late _ _ _)

pub keep-loop-n-init : goal.keep-loop-n-init
keep-loop-n-init g t c =
    record { rest = gather_begins_alone (λ position n. meaning c.args.self.now.caller.tree.now.nodes c.args.self.now.lets.now (typed_tree_of c.args.predicate.now) (placed c.args.current (length c.args.nodes.now) position n)) chosen _ 1 c.args.nodes.now c.new-kept.ensures; place = refl }

pub keep-returns-in_err-stays : goal.keep-returns-in_err-stays
keep-returns-in_err-stays g t c =
    exit_same _ _ c.from_residual-in_err-stays.ensures.1 (gather_stops (λ position n. meaning c.args.self.now.caller.tree.now.nodes c.args.self.now.lets.now (typed_tree_of c.args.predicate.now) (placed c.args.current (length c.args.nodes.now) position n)) chosen done c.loop-n.kept (c.loop-n.n-index + 1) (drop c.loop-n.n-index c.args.nodes.now) c.n-item.result (drop (c.loop-n.n-index + 1) c.args.nodes.now) (next_item c.args.nodes.now c.loop-n.n-index c.n-item.result c.loop-n-test.true c.n-item.is) _ c.loop-n.invariant.rest (ran_alike (ap (λ a. meaning c.args.self.now.caller.tree.now.nodes c.args.self.now.lets.now (typed_tree_of c.args.predicate.now) a) (placed_is c.args.current _ _ _ _ c.n-item.result c.in_ok-size.ensures (ap (λ k. k + 1) c.loop-n.invariant.place))) (ran_err (holds_at _) c.evaluate.result c.in_err-stays.ensures c.evaluate.ensures)))

pub keep-returns-in_err-push_if : goal.keep-returns-in_err-push_if
keep-returns-in_err-push_if g t c =
    exit_memory _ c.from_residual-in_err-push_if.ensures.1 (onto_late (gather_goes (λ position n. meaning c.args.self.now.caller.tree.now.nodes c.args.self.now.lets.now (typed_tree_of c.args.predicate.now) (placed c.args.current (length c.args.nodes.now) position n)) chosen done c.loop-n.kept (c.loop-n.n-index + 1) (drop c.loop-n.n-index c.args.nodes.now) c.n-item.result (drop (c.loop-n.n-index + 1) c.args.nodes.now) (next_item c.args.nodes.now c.loop-n.n-index c.n-item.result c.loop-n-test.true c.n-item.is) refl c.loop-n.invariant.rest (ran_alike (ap (λ a. meaning c.args.self.now.caller.tree.now.nodes c.args.self.now.lets.now (typed_tree_of c.args.predicate.now) a) (placed_is c.args.current _ _ _ _ c.n-item.result c.in_ok-size.ensures (ap (λ k. k + 1) c.loop-n.invariant.place))) (ran_ok (holds_at _) c.evaluate.result c.in_ok-stays.ensures c.evaluate.ensures))))

pub keep-loop-n-preserved : goal.keep-loop-n-preserved
keep-loop-n-preserved g t c =
    record { rest = gather_goes (λ position n. meaning c.args.self.now.caller.tree.now.nodes c.args.self.now.lets.now (typed_tree_of c.args.predicate.now) (placed c.args.current (length c.args.nodes.now) position n)) chosen done c.loop-n.kept (c.loop-n.n-index + 1) (drop c.loop-n.n-index c.args.nodes.now) c.n-item.result (drop (c.loop-n.n-index + 1) c.args.nodes.now) (next_item c.args.nodes.now c.loop-n.n-index c.n-item.result c.loop-n-test.true c.n-item.is) (c.in_ok-push_if.ensures.pushed ∙ ap (λ b. c.loop-n.kept ++ (if b then c.n-item.result ∷ [] else [])) (answered (holds_at _) c.evaluate.result c.in_ok-stays.ensures).2 ∙ ap (λ k. c.loop-n.kept ++ chosen k c.n-item.result (answered (holds_at _) c.evaluate.result c.in_ok-stays.ensures).0) (ap (λ k. k + 1) c.loop-n.invariant.place)) c.loop-n.invariant.rest (ran_alike (ap (λ a. meaning c.args.self.now.caller.tree.now.nodes c.args.self.now.lets.now (typed_tree_of c.args.predicate.now) a) (placed_is c.args.current _ _ _ _ c.n-item.result c.in_ok-size.ensures (ap (λ k. k + 1) c.loop-n.invariant.place))) (ran_ok (holds_at _) c.evaluate.result c.in_ok-stays.ensures c.evaluate.ensures)); place = ap (λ k. k + 1) c.loop-n.invariant.place }

pub keep-returns : goal.keep-returns
keep-returns g t c =
    onto_done (gather_ends (λ position n. meaning c.args.self.now.caller.tree.now.nodes c.args.self.now.lets.now (typed_tree_of c.args.predicate.now) (placed c.args.current (length c.args.nodes.now) position n)) chosen done c.loop-n.kept (c.loop-n.n-index + 1) (drop c.loop-n.n-index c.args.nodes.now) (no_item c.args.nodes.now c.loop-n.n-index c.loop-n-test.false) c.loop-n.invariant.rest)
