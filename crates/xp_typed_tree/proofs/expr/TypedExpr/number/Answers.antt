use Rattle.std.proofs.Common.{◌∙◌, ap}
use Rattle.std.proofs.lemmas.Int.{to_z-of_z}
use Rattle.xp_typed_tree.specs.declared.expr.TypedExpr.TheVariants as exprs
use Rattle.xp_typed_tree.specs.TypedView.{typed_tree_of}
use Rattle.xp_typed_tree.proofs.TypedViewLemmas.{of-Number}
use Rattle.xp_typed_tree.proofs.expr.TypedExpr.number.Goals as goal

pub returns : goal.returns
returns c = ap (λ v. typed_tree_of (exprs.Number v)) (to_z-of_z _ _ c.ranges.value) ∙ of-Number c.args.value
