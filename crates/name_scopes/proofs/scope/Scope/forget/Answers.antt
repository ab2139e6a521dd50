-- One declaration after the other goes.
use Rattle.std.proofs.Common.{ap, ◌∙◌, drop}
use Rattle.name_scopes.proofs.BindingLemmas.{drop-next}
use Rattle.name_scopes.proofs.scope.Scope.forget.Goals as goal

pub loop-preserved : goal.loop-preserved
loop-preserved c = c.forget_one.ensures ∙ (ap (drop 1) c.loop.invariant ∙ drop-next c.loop.counter c.args.self.now)
