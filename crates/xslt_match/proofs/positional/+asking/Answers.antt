use Rattle.std.proofs.Common.{sym, ◌∙◌, ap}
use Rattle.xp_typed_tree.specs.TypedView.{typed_tree_of, typed_seen, compared_list_seen, combined_list_seen, place_of}
use Rattle.xp_typed_tree.proofs.TypedViewLemmas.{of-Or, of-And, of-Compare, of-Arith, of-Negate, of-Union, of-Path, of-Filter, of-Variable, of-Literal, of-Number, of-Call, of-Root, of-Here, of-From}
use Rattle.xslt_match.specs.Positional.{asks_position, place_asks, some_asks, comparands_ask, combinands_ask}
use Rattle.xslt_match.proofs.Asking.{or_yes, or_no, some_asks-next, some_asks-end, comparands-next, comparands-end, combinands-next, combinands-end}
use Rattle.xslt_match.proofs.positional.+asking.Goals as goal

pub asks_position-returns-in-Or : goal.asks_position-returns-in-Or
asks_position-returns-in-Or t c =
    c.some_asks.ensures ∙ ap (λ es. some_asks (typed_seen es)) c.deref.ensures.value ∙ sym (ap asks_position (ap typed_tree_of c.in-Or.is ∙ of-Or _))

pub asks_position-returns-in-And : goal.asks_position-returns-in-And
asks_position-returns-in-And t c =
    c.some_asks-in-And.ensures ∙ ap (λ es. some_asks (typed_seen es)) c.deref-in-And.ensures.value ∙ sym (ap asks_position (ap typed_tree_of c.in-And.is ∙ of-And _))

pub asks_position-returns-in-Union : goal.asks_position-returns-in-Union
asks_position-returns-in-Union t c =
    c.some_asks-in-Union.ensures ∙ ap (λ es. some_asks (typed_seen es)) c.deref-in-Union.ensures.value ∙ sym (ap asks_position (ap typed_tree_of c.in-Union.is ∙ of-Union _))

pub asks_position-returns-then-asks_position : goal.asks_position-returns-then-asks_position
asks_position-returns-then-asks_position t c =
    c.if-asks_position.true ∙ or_yes _ (sym (c.asks_position.ensures ∙ ap (λ e. asks_position (typed_tree_of e)) c.deref-in-Compare.ensures) ∙ c.if-asks_position.true)
    ∙ sym (ap asks_position (ap typed_tree_of c.in-Compare.is ∙ of-Compare _ _))

pub asks_position-returns-else-asks_position : goal.asks_position-returns-else-asks_position
asks_position-returns-else-asks_position t c =
    c.comparands_ask.ensures ∙ ap (λ cs. comparands_ask (compared_list_seen cs)) c.deref-else-asks_position.ensures.value
    ∙ sym (or_no _ (sym (c.asks_position.ensures ∙ ap (λ e. asks_position (typed_tree_of e)) c.deref-in-Compare.ensures) ∙ c.if-asks_position.false))
    ∙ sym (ap asks_position (ap typed_tree_of c.in-Compare.is ∙ of-Compare _ _))

pub asks_position-returns-then-asks_position-2 : goal.asks_position-returns-then-asks_position-2
asks_position-returns-then-asks_position-2 t c =
    c.if-asks_position-2.true ∙ or_yes _ (sym (c.asks_position-in-Arith.ensures ∙ ap (λ e. asks_position (typed_tree_of e)) c.deref-in-Arith.ensures) ∙ c.if-asks_position-2.true)
    ∙ sym (ap asks_position (ap typed_tree_of c.in-Arith.is ∙ of-Arith _ _))

pub asks_position-returns-else-asks_position-2 : goal.asks_position-returns-else-asks_position-2
asks_position-returns-else-asks_position-2 t c =
    c.combinands_ask.ensures ∙ ap (λ cs. combinands_ask (combined_list_seen cs)) c.deref-else-asks_position-2.ensures.value
    ∙ sym (or_no _ (sym (c.asks_position-in-Arith.ensures ∙ ap (λ e. asks_position (typed_tree_of e)) c.deref-in-Arith.ensures) ∙ c.if-asks_position-2.false))
    ∙ sym (ap asks_position (ap typed_tree_of c.in-Arith.is ∙ of-Arith _ _))

pub asks_position-returns-in-Negate : goal.asks_position-returns-in-Negate
asks_position-returns-in-Negate t c =
    c.asks_position-in-Negate.ensures ∙ ap (λ e. asks_position (typed_tree_of e)) c.deref-in-Negate.ensures ∙ sym (ap asks_position (ap typed_tree_of c.in-Negate.is ∙ of-Negate _ _))

pub asks_position-returns-in-Path : goal.asks_position-returns-in-Path
asks_position-returns-in-Path t c = c.place_asks.ensures ∙ sym (ap asks_position (ap typed_tree_of c.in-Path.is ∙ of-Path _ _))

pub asks_position-returns-in-Filter : goal.asks_position-returns-in-Filter
asks_position-returns-in-Filter t c =
    c.asks_position-in-Filter.ensures ∙ ap (λ e. asks_position (typed_tree_of e)) c.deref-in-Filter.ensures ∙ sym (ap asks_position (ap typed_tree_of c.in-Filter.is ∙ of-Filter _ _))

pub asks_position-returns-in-Variable : goal.asks_position-returns-in-Variable
asks_position-returns-in-Variable t c = sym (ap asks_position (ap typed_tree_of c.in-Variable.is ∙ of-Variable _ _))

pub asks_position-returns-in-Literal : goal.asks_position-returns-in-Literal
asks_position-returns-in-Literal t c = sym (ap asks_position (ap typed_tree_of c.in-Literal.is ∙ of-Literal _))

pub asks_position-returns-in-Number : goal.asks_position-returns-in-Number
asks_position-returns-in-Number t c = sym (ap asks_position (ap typed_tree_of c.in-Number.is ∙ of-Number _))

pub asks_position-returns-then-tells_position : goal.asks_position-returns-then-tells_position
asks_position-returns-then-tells_position t c =
    c.if-tells_position.true ∙ or_yes _ (sym c.tells_position.ensures ∙ c.if-tells_position.true) ∙ sym (ap asks_position (ap typed_tree_of c.in-Call.is ∙ of-Call _ _))

pub asks_position-returns-else-tells_position : goal.asks_position-returns-else-tells_position
asks_position-returns-else-tells_position t c =
    c.some_asks-else-tells_position.ensures ∙ ap (λ es. some_asks (typed_seen es)) c.deref-else-tells_position.ensures.value
    ∙ sym (or_no _ (sym c.tells_position.ensures ∙ c.if-tells_position.false)) ∙ sym (ap asks_position (ap typed_tree_of c.in-Call.is ∙ of-Call _ _))

pub place_asks-returns-in-Root : goal.place_asks-returns-in-Root
place_asks-returns-in-Root t c = sym (ap place_asks (ap place_of c.in-Root.is ∙ of-Root))

pub place_asks-returns-in-Here : goal.place_asks-returns-in-Here
place_asks-returns-in-Here t c = sym (ap place_asks (ap place_of c.in-Here.is ∙ of-Here))

pub place_asks-returns-in-From : goal.place_asks-returns-in-From
place_asks-returns-in-From t c =
    c.asks_position.ensures ∙ ap (λ e. asks_position (typed_tree_of e)) c.deref.ensures ∙ sym (ap place_asks (ap place_of c.in-From.is ∙ of-From _))

pub some_asks-returns-then-asks_position : goal.some_asks-returns-then-asks_position
some_asks-returns-then-asks_position t c =
    or_yes _ (sym c.asks_position.ensures ∙ c.if-asks_position.true) ∙ sym (some_asks-next c.args.exprs.now c.loop-expr.expr-index c.expr-item.result c.loop-expr-test.true c.expr-item.is) ∙ sym c.loop-expr.invariant

pub some_asks-loop-expr-preserved : goal.some_asks-loop-expr-preserved
some_asks-loop-expr-preserved t c =
    c.loop-expr.invariant ∙ some_asks-next c.args.exprs.now c.loop-expr.expr-index c.expr-item.result c.loop-expr-test.true c.expr-item.is ∙ or_no _ (sym c.asks_position.ensures ∙ c.if-asks_position.false)

pub some_asks-returns : goal.some_asks-returns
some_asks-returns t c = sym (some_asks-end c.args.exprs.now c.loop-expr.expr-index c.loop-expr-test.false) ∙ sym c.loop-expr.invariant

pub comparands_ask-returns-then-asks_position : goal.comparands_ask-returns-then-asks_position
comparands_ask-returns-then-asks_position t c =
    or_yes _ (sym c.asks_position.ensures ∙ c.if-asks_position.true) ∙ sym (comparands-next c.args.rest.now c.loop-operand.operand-index c.operand-item.result c.loop-operand-test.true c.operand-item.is) ∙ sym c.loop-operand.invariant

pub comparands_ask-loop-operand-preserved : goal.comparands_ask-loop-operand-preserved
comparands_ask-loop-operand-preserved t c =
    c.loop-operand.invariant ∙ comparands-next c.args.rest.now c.loop-operand.operand-index c.operand-item.result c.loop-operand-test.true c.operand-item.is ∙ or_no _ (sym c.asks_position.ensures ∙ c.if-asks_position.false)

pub comparands_ask-returns : goal.comparands_ask-returns
comparands_ask-returns t c = sym (comparands-end c.args.rest.now c.loop-operand.operand-index c.loop-operand-test.false) ∙ sym c.loop-operand.invariant

pub combinands_ask-returns-then-asks_position : goal.combinands_ask-returns-then-asks_position
combinands_ask-returns-then-asks_position t c =
    or_yes _ (sym c.asks_position.ensures ∙ c.if-asks_position.true) ∙ sym (combinands-next c.args.rest.now c.loop-operand.operand-index c.operand-item.result c.loop-operand-test.true c.operand-item.is) ∙ sym c.loop-operand.invariant

pub combinands_ask-loop-operand-preserved : goal.combinands_ask-loop-operand-preserved
combinands_ask-loop-operand-preserved t c =
    c.loop-operand.invariant ∙ combinands-next c.args.rest.now c.loop-operand.operand-index c.operand-item.result c.loop-operand-test.true c.operand-item.is ∙ or_no _ (sym c.asks_position.ensures ∙ c.if-asks_position.false)

pub combinands_ask-returns : goal.combinands_ask-returns
combinands_ask-returns t c = sym (combinands-end c.args.rest.now c.loop-operand.operand-index c.loop-operand-test.false) ∙ sym c.loop-operand.invariant
