use Rattle.std.proofs.Common.{◌++◌, true, false, refl, ap, ◌∙◌, arith}
use Rattle.xp_tree.specs.declared.expr.Chain.{out-Chain}
use Rattle.xp_tree.specs.View.{tree_of, start_of, steps_seen}
use Rattle.xp_tree.proofs.ViewLemmas.{of-Or, of-And, of-Equal, of-Rel, of-Sum, of-Prod, of-Neg, of-Union, of-Path, of-Filter, of-Variable, of-Literal, of-Number, of-Call, of-Root, of-Here, of-From, of-chain}
use Rattle.xp_print.specs.Printed.{is_bare_path, printed, printed_start, printed_steps, enclosed}
use Rattle.xp_print.proofs.Printing.{begin, moved, regrouped, ended, last, enclosed-parts, operand-within, operand-bare, rest-next, rest-end, steps-next, steps-end, predicates-next, predicates-end, args-next, args-end}
use Rattle.xp_print.proofs.print.+print.Goals as goal

pub add_expr-returns-in-Or : goal.add_expr-returns-in-Or
add_expr-returns-in-Or t c = last _ _ _ _ _ _ (begin _ _ _ (ap (printed c.args.behind) (ap tree_of c.in-Or.is ∙ of-Or _ ∙ of-chain _ _))) c.add_chain.ensures

pub add_expr-returns-in-And : goal.add_expr-returns-in-And
add_expr-returns-in-And t c = last _ _ _ _ _ _ (begin _ _ _ (ap (printed c.args.behind) (ap tree_of c.in-And.is ∙ of-And _ ∙ of-chain _ _))) c.add_chain-in-And.ensures

pub add_expr-returns-in-Equal : goal.add_expr-returns-in-Equal
add_expr-returns-in-Equal t c = last _ _ _ _ _ _ (begin _ _ _ (ap (printed c.args.behind) (ap tree_of c.in-Equal.is ∙ of-Equal _ ∙ of-chain _ _))) c.add_chain-in-Equal.ensures

pub add_expr-returns-in-Rel : goal.add_expr-returns-in-Rel
add_expr-returns-in-Rel t c = last _ _ _ _ _ _ (begin _ _ _ (ap (printed c.args.behind) (ap tree_of c.in-Rel.is ∙ of-Rel _ ∙ of-chain _ _))) c.add_chain-in-Rel.ensures

pub add_expr-returns-in-Sum : goal.add_expr-returns-in-Sum
add_expr-returns-in-Sum t c = last _ _ _ _ _ _ (begin _ _ _ (ap (printed c.args.behind) (ap tree_of c.in-Sum.is ∙ of-Sum _ ∙ of-chain _ _))) c.add_chain-in-Sum.ensures

pub add_expr-returns-in-Prod : goal.add_expr-returns-in-Prod
add_expr-returns-in-Prod t c = last _ _ _ _ _ _ (begin _ _ _ (ap (printed c.args.behind) (ap tree_of c.in-Prod.is ∙ of-Prod _ ∙ of-chain _ _))) c.add_chain-in-Prod.ensures

pub add_expr-returns-in-Union : goal.add_expr-returns-in-Union
add_expr-returns-in-Union t c = last _ _ _ _ _ _ (begin _ _ _ (ap (printed c.args.behind) (ap tree_of c.in-Union.is ∙ of-Union _ ∙ of-chain _ _))) c.add_chain-in-Union.ensures

pub add_expr-returns-in_ok-add_signs-in-Neg : goal.add_expr-returns-in_ok-add_signs-in-Neg
add_expr-returns-in_ok-add_signs-in-Neg t c = last _ _ _ _ _ _ (moved _ c.in_ok-add_signs-in-Neg.ensures (begin _ _ _ (ap (printed c.args.behind) (ap tree_of c.in-Neg.is ∙ of-Neg _ _ _)))) (rw c.deref.ensures at c.add_operand.ensures)

pub add_expr-returns-in_ok-add_steps-in-Path : goal.add_expr-returns-in_ok-add_steps-in-Path
add_expr-returns-in_ok-add_steps-in-Path t c = last _ _ _ _ _ _ (moved _ (rw c.deref-in-Path-2.ensures.value at c.in_ok-add_steps-in-Path.ensures) (moved _ c.in_ok-add_start-in-Path.ensures
    (regrouped (printed_start (start_of c.in-Path.start)) (printed_steps true (steps_seen c.in-Path.steps.items)) _ (moved _ (rw (c.is_bare_path-bare.ensures, c.deref-in-Path.ensures.value) at c.in_ok-add_unless-in-Path.ensures)
    (begin _ _ _ (ap (printed c.args.behind) (ap tree_of c.in-Path.is ∙ of-Path _ _ _) ∙ enclosed-parts (is_bare_path c.args.behind (start_of c.in-Path.start) (steps_seen c.in-Path.steps.items)) (printed_start (start_of c.in-Path.start) ++ printed_steps true (steps_seen c.in-Path.steps.items)))))))) (rw (c.is_bare_path-bare.ensures, c.deref-in-Path.ensures.value) at c.add_unless-in-Path.ensures)

pub add_expr-returns-in_ok-add_base-in-Filter : goal.add_expr-returns-in_ok-add_base-in-Filter
add_expr-returns-in_ok-add_base-in-Filter t c = last _ _ _ _ _ _ (moved _ (rw (c.is_base.ensures, c.deref-in-Filter.ensures, c.deref-in-Filter-2.ensures) at c.in_ok-add_base-in-Filter.ensures) (begin _ _ _ (ap (printed c.args.behind) (ap tree_of c.in-Filter.is ∙ of-Filter _ _ _))))
    (rw c.deref-in-Filter-3.ensures.value at c.add_predicates.ensures)

pub add_expr-returns-in_ok-add-in-Variable : goal.add_expr-returns-in_ok-add-in-Variable
add_expr-returns-in_ok-add-in-Variable t c = last _ _ _ _ _ _ (moved _ c.in_ok-add-in-Variable.ensures (begin _ _ _ (ap (printed c.args.behind) (ap tree_of c.in-Variable.is ∙ of-Variable _ _)))) (rw c.as_str.ensures at c.add-in-Variable.ensures)

pub add_expr-returns-in-Literal : goal.add_expr-returns-in-Literal
add_expr-returns-in-Literal t c = last _ _ _ _ _ _ (begin _ _ _ (ap (printed c.args.behind) (ap tree_of c.in-Literal.is ∙ of-Literal _ _))) (rw c.as_str-in-Literal.ensures at c.add_quoted.ensures)

pub add_expr-returns-in-Number : goal.add_expr-returns-in-Number
add_expr-returns-in-Number t c = last _ _ _ _ _ _ (begin _ _ _ (ap (printed c.args.behind) (ap tree_of c.in-Number.is ∙ of-Number _ _))) (rw c.as_str-in-Number.ensures at c.add-in-Number.ensures)

pub add_expr-returns-in_ok-add_args-in-Call : goal.add_expr-returns-in_ok-add_args-in-Call
add_expr-returns-in_ok-add_args-in-Call t c = last _ _ _ _ _ _
    (moved _ (rw c.deref-in-Call.ensures.value at c.in_ok-add_args-in-Call.ensures) (moved _ c.in_ok-add-in-Call-2.ensures (moved _ (rw c.as_str-in-Call.ensures at c.in_ok-add-in-Call.ensures) (begin _ _ _ (ap (printed c.args.behind) (ap tree_of c.in-Call.is ∙ of-Call _ _ _))))))
    c.add-in-Call-3.ensures

pub add_start-returns-in-Root : goal.add_start-returns-in-Root
add_start-returns-in-Root t c = last _ _ _ _ _ _ (begin _ _ _ (ap printed_start (ap start_of c.in-Root.is ∙ of-Root))) c.add.ensures

pub add_start-returns-in-Here : goal.add_start-returns-in-Here
add_start-returns-in-Here t c = ended _ _ _ (begin _ _ _ (ap printed_start (ap start_of c.in-Here.is ∙ of-Here)))

pub add_start-returns-in_ok-add_base-in-From : goal.add_start-returns-in_ok-add_base-in-From
add_start-returns-in_ok-add_base-in-From t c = last _ _ _ _ _ _ (moved _ (rw (c.is_path_base.ensures, c.deref.ensures, c.deref-in-From.ensures) at c.in_ok-add_base-in-From.ensures) (begin _ _ _ (ap printed_start (ap start_of c.in-From.is ∙ of-From _)))) c.add-in-From.ensures

pub add_base-returns : goal.add_base-returns
add_base-returns t c = last _ _ _ _ _ _ (moved _ c.in_ok-add_expr.ensures (moved _ c.in_ok-add.ensures (begin _ _ _ (ap (λ b. enclosed b (printed false (tree_of c.args.expr.now))) c.if-bare.false)))) c.add-2.ensures

pub add_chain-loop-operand-init : goal.add_chain-loop-operand-init
add_chain-loop-operand-init t c = (refl, moved _ (rw (c.deref.ensures, c.is_name_like_next.ensures, c.deref-2.ensures.value) at c.in_ok-add_operand.ensures) (begin _ _ _ refl))

pub add_chain-loop-operand-preserved : goal.add_chain-loop-operand-preserved
add_chain-loop-operand-preserved t c = (
  omega arith,
  moved _ (rw (c.is_name_like_next-in-loop-operand.ensures, c.deref-in-loop-operand.ensures.value, c.loop-operand.invariant.0) at c.in_ok-add_operand-2.ensures)
      (moved _ (rw c.operator_text.ensures at c.in_ok-add.ensures) (rest-next _ _ _ _ c.operand-item.result _ _ (rw c.deref-operand-items.ensures.value at c.loop-operand-test.true) (rw c.deref-operand-items.ensures.value at c.operand-item.is) c.loop-operand.invariant.1)),
)

pub add_chain-returns : goal.add_chain-returns
add_chain-returns t c = ended _ _ _ (rw c.binding-around.ensures at (rest-end _ _ _ _ _ _ (rw c.deref-operand-items.ensures.value at c.loop-operand-test.false) c.loop-operand.invariant.1))

pub add_chain-overflow_add-next : goal.add_chain-overflow_add-next
add_chain-overflow_add-next t c = let rest = (out-Chain c.args.chain.now).rest in
    let l = c.deref-operand-items.ensures.len in
    let s = rest.small in
    omega (arith, l, s, c.loop-operand.invariant.0)

pub add_steps-loop-step-init : goal.add_steps-loop-step-init
add_steps-loop-step-init t c = begin _ _ _ refl

pub add_steps-loop-step-preserved : goal.add_steps-loop-step-preserved
add_steps-loop-step-preserved t c = moved _ (rw c.deref.ensures.value at c.in_ok-add_predicates.ensures) (moved _ c.in_ok-add_test.ensures (moved _ c.in_ok-add-2.ensures (moved _ (rw c.as_str.ensures at c.in_ok-add.ensures) (moved _ c.in_ok-add_unless.ensures
    (steps-next _ _ _ c.step-item.result _ _ c.loop-step-test.true c.step-item.is c.loop-step.invariant)))))

pub add_steps-returns : goal.add_steps-returns
add_steps-returns t c = ended _ _ _ (steps-end _ _ _ _ _ c.loop-step-test.false c.loop-step.invariant)

pub add_predicates-loop-predicate-init : goal.add_predicates-loop-predicate-init
add_predicates-loop-predicate-init t c = begin _ _ _ refl

pub add_predicates-loop-predicate-preserved : goal.add_predicates-loop-predicate-preserved
add_predicates-loop-predicate-preserved t c = moved _ c.in_ok-add-2.ensures (moved _ c.in_ok-add_expr.ensures (moved _ c.in_ok-add.ensures (predicates-next _ _ c.predicate-item.result _ _ c.loop-predicate-test.true c.predicate-item.is c.loop-predicate.invariant)))

pub add_predicates-returns : goal.add_predicates-returns
add_predicates-returns t c = ended _ _ _ (predicates-end _ _ _ _ c.loop-predicate-test.false c.loop-predicate.invariant)

pub add_args-loop-arg-init : goal.add_args-loop-arg-init
add_args-loop-arg-init t c = begin _ _ _ refl

pub add_args-loop-arg-preserved : goal.add_args-loop-arg-preserved
add_args-loop-arg-preserved t c = moved _ c.in_ok-add_expr.ensures (moved _ c.in_ok-add_unless.ensures (args-next _ _ _ c.arg-item.result _ _ c.loop-arg-test.true c.arg-item.is c.loop-arg.invariant))

pub add_args-returns : goal.add_args-returns
add_args-returns t c = ended _ _ _ (args-end _ _ _ _ _ c.loop-arg-test.false c.loop-arg.invariant)

pub add_operand-returns-then-binding_of-around : goal.add_operand-returns-then-binding_of-around
add_operand-returns-then-binding_of-around t c = last _ _ _ _ _ _ (begin _ _ _ (operand-within _ _ c.binding_of.result _ _ c.if-binding_of-around.true c.binding_of.ensures)) c.add_base.ensures

pub add_operand-returns-else-binding_of-around : goal.add_operand-returns-else-binding_of-around
add_operand-returns-else-binding_of-around t c = last _ _ _ _ _ _ (begin _ _ _ (operand-bare _ _ c.binding_of.result _ _ c.if-binding_of-around.false c.binding_of.ensures)) c.add_expr.ensures
