use Rattle.std.proofs.Common.{◌∙◌, ap}
use Rattle.xp_tree.specs.Tree.{path}
use Rattle.xp_tree.specs.View.{steps_seen}
use Rattle.xp_tree.proofs.ViewLemmas.{of-Path, of-Root}
use Rattle.xp_tree.proofs.expr.Expr.from_root.Goals as goal

pub returns : goal.returns
returns c = of-Path _ _ _ ∙ ap (λ s. path c.args.offset s (steps_seen c.args.steps.items)) of-Root
