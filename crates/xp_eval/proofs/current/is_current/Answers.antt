use Rattle.std.proofs.Common.{eqb-true, sym, ◌∙◌}
use Rattle.std.proofs.lemmas.List.{nil_from_length}
use Rattle.xp_typed_tree.specs.declared.function.Function.TheVariants.{Current}
use Rattle.xp_eval.proofs.Views.{view-bare-Call}
use Rattle.xp_eval.proofs.current.is_current.Goals as goal

pub returns-then-gives_current : goal.returns-then-gives_current
returns-then-gives_current c = λ none T L at.
    view-bare-Call T L c.args.expr.now at c.in-Call.function Current c.in-Call.args _ c.in-Call.is c.as_slice.ensures.value (c.gives_current.ensures c.if-gives_current.true)
    (nil_from_length _ (eqb-true _ 0 (sym c.is_empty.ensures ∙ none)))
