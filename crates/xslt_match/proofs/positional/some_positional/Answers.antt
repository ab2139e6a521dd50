use Rattle.std.proofs.Common.{sym, ◌∙◌}
use Rattle.xslt_match.proofs.Asking.{or_yes, or_no, some_positional-next, some_positional-end}
use Rattle.xslt_match.proofs.positional.some_positional.Goals as goal

pub returns-then-is_positional : goal.returns-then-is_positional
returns-then-is_positional c =
    or_yes _ (sym c.is_positional.ensures ∙ c.if-is_positional.true) ∙ sym (some_positional-next c.args.predicates.now c.loop-predicate.predicate-index c.predicate-item.result c.loop-predicate-test.true c.predicate-item.is) ∙ sym c.loop-predicate.invariant

pub loop-predicate-preserved : goal.loop-predicate-preserved
loop-predicate-preserved c =
    c.loop-predicate.invariant ∙ some_positional-next c.args.predicates.now c.loop-predicate.predicate-index c.predicate-item.result c.loop-predicate-test.true c.predicate-item.is ∙ or_no _ (sym c.is_positional.ensures ∙ c.if-is_positional.false)

pub returns : goal.returns
returns c = sym (some_positional-end c.args.predicates.now c.loop-predicate.predicate-index c.loop-predicate-test.false) ∙ sym c.loop-predicate.invariant
