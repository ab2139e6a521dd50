use Rattle.std.proofs.Common.{subst}
use Rattle.sch_plan.specs.Expressions.{path}
use Rattle.sch_phases.specs.Walk.{Answers}
use Rattle.sch_plan.proofs.ScopeLemmas.{scope-of}
use Rattle.sch_plan.proofs.scopes.Scopes.path.Goals as goal

pub returns : goal.returns
returns c =
    subst (λ S. Answers (path S c.args.node c.args.text.now) c.path.result) (scope-of c.self.inside.expressions _ _ c.self.view_is c.self.invariant.0) c.path.ensures
