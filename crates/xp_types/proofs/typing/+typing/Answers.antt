use Rattle.std.proofs.Common.{Ok, refl, sym, ap, ◌∙◌}
use Rattle.std.specs.Prelude.{Box, Vec}
use Rattle.std.specs.declared.alloc.Global.{Global}
use Rattle.std.proofs.lemmas.Result.{err_from_is_err_and}
use Rattle.xp_typed_tree.specs.declared.expr.TypedExpr.{TypedExpr}
use Rattle.xp_typed_tree.specs.declared.expr.TypedStep.{TypedStep}
use Rattle.xp_typed_tree.specs.declared.function.Function.{Function}
use Rattle.xp_typed_tree.specs.TypedTree.{text}
use Rattle.xp_typed_tree.specs.TypedView.{typed_tree_of, place_of, typed_seen, typed_steps_seen}
use Rattle.xp_types.proofs.Giving.{goes, stops, still, gives-same}
use Rattle.xp_types.proofs.TypingViews.{view-Or, view-And, view-Union, view-Equal, view-Rel, view-Sum, view-Prod, view-Neg, view-Path, view-Path-start, view-Filter, view-Variable, view-Literal, view-Number, view-Call, view-Root, view-Here, view-From}
use Rattle.xp_types.proofs.Looping.{plain-goes, plain-stops, list-begins, list-goes, list-stops, list-ends, chain-begins, chain-fails, chain-goes, chain-stops, chain-ends, comparison-begins, comparison-fails, comparison-goes, comparison-refuses, comparison-stops, comparison-ends, arithmetic-begins, arithmetic-fails, arithmetic-goes, arithmetic-refuses, arithmetic-stops, arithmetic-ends, steps-begin, steps-go, steps-refuse, steps-unresolved, steps-stop, steps-end}
use Rattle.xp_types.proofs.typing.+typing.Goals as goal

pub type_arithmetic-returns-in_err-first : goal.type_arithmetic-returns-in_err-first
type_arithmetic-returns-in_err-first t c = let p = err_from_is_err_and c.from_residual.result c.from_residual.ensures.1 in
    rw (p.1, p.2) (arithmetic-fails _ _ _ _ _ c.deref.ensures (plain-stops _ _ _ c.in_err-first.ensures))

pub type_arithmetic-loop-operand-init : goal.type_arithmetic-loop-operand-init
type_arithmetic-loop-operand-init t c = arithmetic-begins _ _ _ _ _ _ _ c.deref.ensures (plain-goes _ _ c.in_ok-first.first c.in_ok-first.ensures) refl c.new-combined.ensures.items

pub type_arithmetic-returns-in_err-operator : goal.type_arithmetic-returns-in_err-operator
type_arithmetic-returns-in_err-operator t c = let p = err_from_is_err_and c.from_residual-in_err-operator.result c.from_residual-in_err-operator.ensures.1 in
    rw (p.1, p.2) (arithmetic-refuses _ _ _ _ _ _ c.operand-item.result _ (rw c.deref-operand-items.ensures.value at c.loop-operand-test.true) (rw c.deref-operand-items.ensures.value at c.operand-item.is) c.loop-operand.invariant c.in_err-operator.ensures)

pub type_arithmetic-returns-in_err-expr : goal.type_arithmetic-returns-in_err-expr
type_arithmetic-returns-in_err-expr t c = let p = err_from_is_err_and c.from_residual-in_err-expr.result c.from_residual-in_err-expr.ensures.1 in
    rw (p.1, p.2) (arithmetic-stops _ _ _ _ _ _ c.operand-item.result _ _ (rw c.deref-operand-items.ensures.value at c.loop-operand-test.true) (rw c.deref-operand-items.ensures.value at c.operand-item.is) c.loop-operand.invariant c.in_ok-operator.ensures c.in_err-expr.ensures)

pub type_arithmetic-loop-operand-preserved : goal.type_arithmetic-loop-operand-preserved
type_arithmetic-loop-operand-preserved t c = arithmetic-goes _ _ _ _ _ _ _ c.operand-item.result _ c.in_ok-expr.expr _ (rw c.deref-operand-items.ensures.value at c.loop-operand-test.true) (rw c.deref-operand-items.ensures.value at c.operand-item.is) c.loop-operand.invariant c.in_ok-operator.ensures c.in_ok-expr.ensures c.new.ensures c.in_ok-push.ensures.items

pub type_arithmetic-returns : goal.type_arithmetic-returns
type_arithmetic-returns t c = arithmetic-ends _ _ _ _ _ _ _ (rw c.deref-operand-items.ensures.value at c.loop-operand-test.false) c.loop-operand.invariant c.arith.ensures

pub type_boxed-returns-in_err-type_operand : goal.type_boxed-returns-in_err-type_operand
type_boxed-returns-in_err-type_operand t c = let p = err_from_is_err_and c.from_residual.result c.from_residual.ensures.1 in
    rw (p.1, p.2) (still _ typed_tree_of (λ (b : Box TypedExpr Global). typed_tree_of b.value) _ c.in_err-type_operand.ensures)

pub type_boxed-returns : goal.type_boxed-returns
type_boxed-returns t c = record { given = c.in_ok-type_operand.ensures.given ∙ ap (λ e. Ok (typed_tree_of e)) (sym c.in_ok-new.ensures.ok) }

pub type_chain-returns-in_err-type_operand : goal.type_chain-returns-in_err-type_operand
type_chain-returns-in_err-type_operand t c = let p = err_from_is_err_and c.from_residual.result c.from_residual.ensures.1 in
    rw (p.1, p.2) (chain-fails _ _ _ _ _ c.deref.ensures (rw c.joins_nodes.ensures at c.in_err-type_operand.ensures))

pub type_chain-loop-operand-init : goal.type_chain-loop-operand-init
type_chain-loop-operand-init t c = chain-begins _ _ _ _ _ _ _ c.deref.ensures (rw c.joins_nodes.ensures at c.in_ok-type_operand.ensures) c.new-typed.ensures.items c.in_ok-push.ensures.items

pub type_chain-returns-in_err-type_joined : goal.type_chain-returns-in_err-type_joined
type_chain-returns-in_err-type_joined t c = let p = err_from_is_err_and c.from_residual-in_err-type_joined.result c.from_residual-in_err-type_joined.ensures.1 in
    rw (p.1, p.2) (chain-stops _ _ _ _ _ c.operand-item.result _ (rw c.deref-operand-items.ensures.value at c.loop-operand-test.true) (rw c.deref-operand-items.ensures.value at c.operand-item.is) c.loop-operand.invariant c.in_err-type_joined.ensures)

pub type_chain-loop-operand-preserved : goal.type_chain-loop-operand-preserved
type_chain-loop-operand-preserved t c = chain-goes _ _ _ _ _ _ c.operand-item.result _ (rw c.deref-operand-items.ensures.value at c.loop-operand-test.true) (rw c.deref-operand-items.ensures.value at c.operand-item.is) c.loop-operand.invariant c.in_ok-type_joined.ensures c.in_ok-push-2.ensures.items

pub type_chain-returns : goal.type_chain-returns
type_chain-returns t c = chain-ends _ _ _ _ _ (rw c.deref-operand-items.ensures.value at c.loop-operand-test.false) c.loop-operand.invariant

pub type_comparison-returns-in_err-first : goal.type_comparison-returns-in_err-first
type_comparison-returns-in_err-first t c = let p = err_from_is_err_and c.from_residual.result c.from_residual.ensures.1 in
    rw (p.1, p.2) (comparison-fails _ _ _ _ _ c.deref.ensures (plain-stops _ _ _ c.in_err-first.ensures))

pub type_comparison-loop-operand-init : goal.type_comparison-loop-operand-init
type_comparison-loop-operand-init t c = comparison-begins _ _ _ _ _ _ _ c.deref.ensures (plain-goes _ _ c.in_ok-first.first c.in_ok-first.ensures) refl c.new-compared.ensures.items

pub type_comparison-returns-in_err-operator : goal.type_comparison-returns-in_err-operator
type_comparison-returns-in_err-operator t c = let p = err_from_is_err_and c.from_residual-in_err-operator.result c.from_residual-in_err-operator.ensures.1 in
    rw (p.1, p.2) (comparison-refuses _ _ _ _ _ _ c.operand-item.result _ (rw c.deref-operand-items.ensures.value at c.loop-operand-test.true) (rw c.deref-operand-items.ensures.value at c.operand-item.is) c.loop-operand.invariant c.in_err-operator.ensures)

pub type_comparison-returns-in_err-expr : goal.type_comparison-returns-in_err-expr
type_comparison-returns-in_err-expr t c = let p = err_from_is_err_and c.from_residual-in_err-expr.result c.from_residual-in_err-expr.ensures.1 in
    rw (p.1, p.2) (comparison-stops _ _ _ _ _ _ c.operand-item.result _ _ (rw c.deref-operand-items.ensures.value at c.loop-operand-test.true) (rw c.deref-operand-items.ensures.value at c.operand-item.is) c.loop-operand.invariant c.in_ok-operator.ensures c.in_err-expr.ensures)

pub type_comparison-loop-operand-preserved : goal.type_comparison-loop-operand-preserved
type_comparison-loop-operand-preserved t c = comparison-goes _ _ _ _ _ _ _ c.operand-item.result _ c.in_ok-expr.expr _ (rw c.deref-operand-items.ensures.value at c.loop-operand-test.true) (rw c.deref-operand-items.ensures.value at c.operand-item.is) c.loop-operand.invariant c.in_ok-operator.ensures c.in_ok-expr.ensures c.new.ensures c.in_ok-push.ensures.items

pub type_comparison-returns : goal.type_comparison-returns
type_comparison-returns t c = record { given = comparison-ends _ _ _ _ _ _ (rw c.deref-operand-items.ensures.value at c.loop-operand-test.false) c.loop-operand.invariant ∙ ap Ok (sym c.compared_with.ensures) }

pub type_expr-returns-in_err-type_chain-in-Or : goal.type_expr-returns-in_err-type_chain-in-Or
type_expr-returns-in_err-type_chain-in-Or t c = let p = err_from_is_err_and c.from_residual.result c.from_residual.ensures.1 in
    rw (p.1, p.2) (gives-same (view-Or _ _ _ c.in-Or.is) (stops _ _ (λ (v : Vec TypedExpr Global). typed_seen v.items) typed_tree_of _ c.in_err-type_chain-in-Or.ensures))

pub type_expr-returns-in_err-type_chain-in-And : goal.type_expr-returns-in_err-type_chain-in-And
type_expr-returns-in_err-type_chain-in-And t c = let p = err_from_is_err_and c.from_residual-in_err-type_chain-in-And.result c.from_residual-in_err-type_chain-in-And.ensures.1 in
    rw (p.1, p.2) (gives-same (view-And _ _ _ c.in-And.is) (stops _ _ (λ (v : Vec TypedExpr Global). typed_seen v.items) typed_tree_of _ c.in_err-type_chain-in-And.ensures))

pub type_expr-returns-in_err-type_chain-in-Union : goal.type_expr-returns-in_err-type_chain-in-Union
type_expr-returns-in_err-type_chain-in-Union t c = let p = err_from_is_err_and c.from_residual-in_err-type_chain-in-Union.result c.from_residual-in_err-type_chain-in-Union.ensures.1 in
    rw (p.1, p.2) (gives-same (view-Union _ _ _ c.in-Union.is) (stops _ _ (λ (v : Vec TypedExpr Global). typed_seen v.items) typed_tree_of _ c.in_err-type_chain-in-Union.ensures))

pub type_expr-returns-in_err-operand-in-Neg : goal.type_expr-returns-in_err-operand-in-Neg
type_expr-returns-in_err-operand-in-Neg t c = let p = err_from_is_err_and c.from_residual-in_err-operand-in-Neg.result c.from_residual-in_err-operand-in-Neg.ensures.1 in
    rw (p.1, p.2) (gives-same (view-Neg _ _ _ _ _ _ c.in-Neg.is c.deref.ensures) (stops _ _ typed_tree_of typed_tree_of _ (plain-stops _ _ _ c.in_err-operand-in-Neg.ensures)))

pub type_expr-returns-in_err-place-in-Path : goal.type_expr-returns-in_err-place-in-Path
type_expr-returns-in_err-place-in-Path t c = let p = err_from_is_err_and c.from_residual-in_err-place-in-Path.result c.from_residual-in_err-place-in-Path.ensures.1 in
    rw (p.1, p.2) (gives-same (view-Path-start _ _ _ _ _ c.in-Path.is) (stops _ _ place_of typed_tree_of _ c.in_err-place-in-Path.ensures))

pub type_expr-returns-in_err-type_steps-in-Path : goal.type_expr-returns-in_err-type_steps-in-Path
type_expr-returns-in_err-type_steps-in-Path t c = let p = err_from_is_err_and c.from_residual-in_err-type_steps-in-Path.result c.from_residual-in_err-type_steps-in-Path.ensures.1 in
    rw (p.1, p.2) (gives-same (view-Path _ _ _ _ _ _ c.in-Path.is c.deref-in-Path.ensures.value) (goes _ _ place_of typed_tree_of c.in_ok-place-in-Path.place _ c.in_ok-place-in-Path.ensures (stops _ _ (λ (v : Vec TypedStep Global). typed_steps_seen v.items) typed_tree_of _ c.in_err-type_steps-in-Path.ensures)))

pub type_expr-returns-in_err-base-in-Filter : goal.type_expr-returns-in_err-base-in-Filter
type_expr-returns-in_err-base-in-Filter t c = let p = err_from_is_err_and c.from_residual-in_err-base-in-Filter.result c.from_residual-in_err-base-in-Filter.ensures.1 in
    rw (p.1, p.2) (gives-same (view-Filter _ _ _ _ _ _ _ c.in-Filter.is c.deref-in-Filter.ensures refl) (stops _ _ (λ (b : Box TypedExpr Global). typed_tree_of b.value) typed_tree_of _ c.in_err-base-in-Filter.ensures))

pub type_expr-returns-in_err-predicates-in-Filter : goal.type_expr-returns-in_err-predicates-in-Filter
type_expr-returns-in_err-predicates-in-Filter t c = let p = err_from_is_err_and c.from_residual-in_err-predicates-in-Filter.result c.from_residual-in_err-predicates-in-Filter.ensures.1 in
    rw (p.1, p.2) (gives-same (view-Filter _ _ _ _ _ _ _ c.in-Filter.is c.deref-in-Filter.ensures c.deref-in-Filter-2.ensures.value) (goes _ _ (λ (b : Box TypedExpr Global). typed_tree_of b.value) typed_tree_of c.in_ok-base-in-Filter.base _ c.in_ok-base-in-Filter.ensures (stops _ _ (λ (v : Vec TypedExpr Global). typed_seen v.items) typed_tree_of _ c.in_err-predicates-in-Filter.ensures)))

pub type_expr-returns-in_err-function-in-Call : goal.type_expr-returns-in_err-function-in-Call
type_expr-returns-in_err-function-in-Call t c = let p = err_from_is_err_and c.from_residual-in_err-function-in-Call.result c.from_residual-in_err-function-in-Call.ensures.1 in
    rw (p.1, p.2) (gives-same (view-Call _ _ _ _ _ _ _ c.in-Call.is c.len.ensures refl) (stops _ _ (λ (f : Function). f) typed_tree_of _ c.in_err-function-in-Call.ensures))

pub type_expr-returns-in_err-args-in-Call : goal.type_expr-returns-in_err-args-in-Call
type_expr-returns-in_err-args-in-Call t c = let p = err_from_is_err_and c.from_residual-in_err-args-in-Call.result c.from_residual-in_err-args-in-Call.ensures.1 in
    rw (p.1, p.2) (gives-same (view-Call _ _ _ _ _ _ _ c.in-Call.is c.len.ensures c.deref-in-Call.ensures.value) (goes _ _ (λ (f : Function). f) typed_tree_of c.in_ok-function-in-Call.function _ c.in_ok-function-in-Call.ensures (stops _ _ (λ (v : Vec TypedExpr Global). typed_seen v.items) typed_tree_of _ (rw c.wants_nodes.ensures at c.in_err-args-in-Call.ensures))))

pub type_expr-returns-in_ok-type_chain-in-Or : goal.type_expr-returns-in_ok-type_chain-in-Or
type_expr-returns-in_ok-type_chain-in-Or t c = gives-same (view-Or _ _ _ c.in-Or.is) (goes _ _ (λ (v : Vec TypedExpr Global). typed_seen v.items) typed_tree_of c.in_ok-type_chain-in-Or.field-0 _ c.in_ok-type_chain-in-Or.ensures (record { given = ap Ok (sym c.or.ensures) }))

pub type_expr-returns-in_ok-type_chain-in-And : goal.type_expr-returns-in_ok-type_chain-in-And
type_expr-returns-in_ok-type_chain-in-And t c = gives-same (view-And _ _ _ c.in-And.is) (goes _ _ (λ (v : Vec TypedExpr Global). typed_seen v.items) typed_tree_of c.in_ok-type_chain-in-And.field-0 _ c.in_ok-type_chain-in-And.ensures (record { given = ap Ok (sym c.and.ensures) }))

pub type_expr-returns-in-Equal : goal.type_expr-returns-in-Equal
type_expr-returns-in-Equal t c = gives-same (view-Equal _ _ _ c.in-Equal.is) c.type_comparison.ensures

pub type_expr-returns-in-Rel : goal.type_expr-returns-in-Rel
type_expr-returns-in-Rel t c = gives-same (view-Rel _ _ _ c.in-Rel.is) c.type_comparison-in-Rel.ensures

pub type_expr-returns-in-Sum : goal.type_expr-returns-in-Sum
type_expr-returns-in-Sum t c = gives-same (view-Sum _ _ _ c.in-Sum.is) c.type_arithmetic.ensures

pub type_expr-returns-in-Prod : goal.type_expr-returns-in-Prod
type_expr-returns-in-Prod t c = gives-same (view-Prod _ _ _ c.in-Prod.is) c.type_arithmetic-in-Prod.ensures

pub type_expr-returns-in_ok-type_chain-in-Union : goal.type_expr-returns-in_ok-type_chain-in-Union
type_expr-returns-in_ok-type_chain-in-Union t c = gives-same (view-Union _ _ _ c.in-Union.is) (goes _ _ (λ (v : Vec TypedExpr Global). typed_seen v.items) typed_tree_of c.in_ok-type_chain-in-Union.field-0 _ c.in_ok-type_chain-in-Union.ensures (record { given = ap Ok (sym c.union.ensures) }))

pub type_expr-returns-in_ok-operand-in-Neg : goal.type_expr-returns-in_ok-operand-in-Neg
type_expr-returns-in_ok-operand-in-Neg t c = gives-same (view-Neg _ _ _ _ _ _ c.in-Neg.is c.deref.ensures) (goes _ _ typed_tree_of typed_tree_of c.in_ok-operand-in-Neg.operand.value _ (plain-goes _ _ c.in_ok-operand-in-Neg.operand c.in_ok-operand-in-Neg.ensures) (record { given = ap Ok (sym c.negate.ensures) }))

pub type_expr-returns-in_ok-type_steps-in-Path : goal.type_expr-returns-in_ok-type_steps-in-Path
type_expr-returns-in_ok-type_steps-in-Path t c = gives-same (view-Path _ _ _ _ _ _ c.in-Path.is c.deref-in-Path.ensures.value) (goes _ _ place_of typed_tree_of c.in_ok-place-in-Path.place _ c.in_ok-place-in-Path.ensures (goes _ _ (λ (v : Vec TypedStep Global). typed_steps_seen v.items) typed_tree_of c.in_ok-type_steps-in-Path.field-0 _ c.in_ok-type_steps-in-Path.ensures (record { given = ap Ok (sym c.path.ensures) })))

pub type_expr-returns-in_ok-predicates-in-Filter : goal.type_expr-returns-in_ok-predicates-in-Filter
type_expr-returns-in_ok-predicates-in-Filter t c = gives-same (view-Filter _ _ _ _ _ _ _ c.in-Filter.is c.deref-in-Filter.ensures c.deref-in-Filter-2.ensures.value) (goes _ _ (λ (b : Box TypedExpr Global). typed_tree_of b.value) typed_tree_of c.in_ok-base-in-Filter.base _ c.in_ok-base-in-Filter.ensures (goes _ _ (λ (v : Vec TypedExpr Global). typed_seen v.items) typed_tree_of c.in_ok-predicates-in-Filter.predicates _ c.in_ok-predicates-in-Filter.ensures (record { given = ap Ok (sym c.filter.ensures) })))

pub type_expr-returns-in-Variable : goal.type_expr-returns-in-Variable
type_expr-returns-in-Variable t c = gives-same (view-Variable _ _ _ _ c.in-Variable.is) c.type_variable.ensures

pub type_expr-returns-in_ok-copy-in-Literal : goal.type_expr-returns-in_ok-copy-in-Literal
type_expr-returns-in_ok-copy-in-Literal t c = gives-same (view-Literal _ _ _ _ c.in-Literal.is) (record { given = ap Ok (ap text (sym (c.in_ok-copy-in-Literal.ensures ∙ c.as_str.ensures)) ∙ sym c.literal.ensures) })

pub type_expr-returns-in-Number : goal.type_expr-returns-in-Number
type_expr-returns-in-Number t c = gives-same (view-Number _ _ _ _ c.in-Number.is) c.type_number.ensures

pub type_expr-returns-in_ok-args-in-Call : goal.type_expr-returns-in_ok-args-in-Call
type_expr-returns-in_ok-args-in-Call t c = gives-same (view-Call _ _ _ _ _ _ _ c.in-Call.is c.len.ensures c.deref-in-Call.ensures.value) (goes _ _ (λ (f : Function). f) typed_tree_of c.in_ok-function-in-Call.function _ c.in_ok-function-in-Call.ensures (goes _ _ (λ (v : Vec TypedExpr Global). typed_seen v.items) typed_tree_of c.in_ok-args-in-Call.args _ (rw c.wants_nodes.ensures at c.in_ok-args-in-Call.ensures) (record { given = ap Ok (sym c.call.ensures) })))

pub type_list-loop-expr-init : goal.type_list-loop-expr-init
type_list-loop-expr-init t c = list-begins _ _ _ _ c.new-typed.ensures.items

pub type_list-returns-in_err-type_operand : goal.type_list-returns-in_err-type_operand
type_list-returns-in_err-type_operand t c = let p = err_from_is_err_and c.from_residual.result c.from_residual.ensures.1 in
    rw (p.1, p.2) (list-stops _ _ _ _ _ _ _ c.loop-expr-test.true c.expr-item.is c.loop-expr.invariant c.in_err-type_operand.ensures)

pub type_list-loop-expr-preserved : goal.type_list-loop-expr-preserved
type_list-loop-expr-preserved t c = list-goes _ _ _ _ _ _ _ _ c.loop-expr-test.true c.expr-item.is c.loop-expr.invariant c.in_ok-type_operand.ensures c.in_ok-push.ensures.items

pub type_list-returns : goal.type_list-returns
type_list-returns t c = list-ends _ _ _ _ _ c.loop-expr-test.false c.loop-expr.invariant

pub type_operand-returns-in_err-typed : goal.type_operand-returns-in_err-typed
type_operand-returns-in_err-typed t c = let p = err_from_is_err_and c.from_residual.result c.from_residual.ensures.1 in
    rw (p.1, p.2) (stops _ _ typed_tree_of typed_tree_of _ c.in_err-typed.ensures)

pub type_operand-returns : goal.type_operand-returns
type_operand-returns t c = goes _ _ typed_tree_of typed_tree_of c.in_ok-typed.typed _ c.in_ok-typed.ensures (rw c.offset_of.ensures at c.as_wanted.ensures)

pub type_start-returns-in_err-base-in-From : goal.type_start-returns-in_err-base-in-From
type_start-returns-in_err-base-in-From t c = let p = err_from_is_err_and c.from_residual.result c.from_residual.ensures.1 in
    rw (p.1, p.2) (gives-same (view-From _ _ _ _ c.in-From.is c.deref.ensures) (stops _ _ (λ (b : Box TypedExpr Global). typed_tree_of b.value) place_of _ c.in_err-base-in-From.ensures))

pub type_start-returns-in-Root : goal.type_start-returns-in-Root
type_start-returns-in-Root t c = gives-same (view-Root _ _ c.in-Root.is) (record { given = ap Ok (sym c.at_root.ensures) })

pub type_start-returns-in-Here : goal.type_start-returns-in-Here
type_start-returns-in-Here t c = gives-same (view-Here _ _ c.in-Here.is) (record { given = ap Ok (sym c.at_context.ensures) })

pub type_start-returns-in_ok-base-in-From : goal.type_start-returns-in_ok-base-in-From
type_start-returns-in_ok-base-in-From t c = gives-same (view-From _ _ _ _ c.in-From.is c.deref.ensures) (goes _ _ (λ (b : Box TypedExpr Global). typed_tree_of b.value) place_of c.in_ok-base-in-From.base _ c.in_ok-base-in-From.ensures (record { given = ap Ok (sym c.from_nodes.ensures) }))

pub type_steps-loop-step-init : goal.type_steps-loop-step-init
type_steps-loop-step-init t c = steps-begin _ _ _ c.new-typed.ensures.items

pub type_steps-returns-in_err-axis : goal.type_steps-returns-in_err-axis
type_steps-returns-in_err-axis t c = let p = err_from_is_err_and c.from_residual.result c.from_residual.ensures.1 in
    rw (p.1, p.2) (steps-refuse _ _ _ _ c.step-item.result _ c.loop-step-test.true c.step-item.is c.loop-step.invariant c.in_err-axis.ensures)

pub type_steps-returns-in_err-test : goal.type_steps-returns-in_err-test
type_steps-returns-in_err-test t c = let p = err_from_is_err_and c.from_residual-in_err-test.result c.from_residual-in_err-test.ensures.1 in
    rw (p.1, p.2) (steps-unresolved _ _ _ _ c.step-item.result _ _ c.loop-step-test.true c.step-item.is c.loop-step.invariant c.in_ok-axis.ensures c.in_err-test.ensures)

pub type_steps-returns-in_err-predicates : goal.type_steps-returns-in_err-predicates
type_steps-returns-in_err-predicates t c = let p = err_from_is_err_and c.from_residual-in_err-predicates.result c.from_residual-in_err-predicates.ensures.1 in
    rw (p.1, p.2) (steps-stop _ _ _ _ c.step-item.result _ _ _ c.loop-step-test.true c.step-item.is c.loop-step.invariant c.in_ok-axis.ensures c.in_ok-test.ensures (rw c.deref.ensures.value at c.in_err-predicates.ensures))

pub type_steps-loop-step-preserved : goal.type_steps-loop-step-preserved
type_steps-loop-step-preserved t c = steps-go _ _ _ _ _ c.step-item.result _ _ _ _ c.loop-step-test.true c.step-item.is c.loop-step.invariant c.in_ok-axis.ensures c.in_ok-test.ensures (rw c.deref.ensures.value at c.in_ok-predicates.ensures) c.new.ensures c.in_ok-push.ensures.items

pub type_steps-returns : goal.type_steps-returns
type_steps-returns t c = steps-end _ _ _ _ c.loop-step-test.false c.loop-step.invariant
