use Rattle.std.proofs.Common.{subst, sym}
use Rattle.std.specs.Prelude.{IfSome}
use Rattle.xslt_match.specs.Kept.{IsOutcomeAt}
use Rattle.xslt_match.proofs.Keeping.{kept_found}
use Rattle.xslt_match.proofs.kept.KeptSteps.find.Goals as goal

pub returns : goal.returns
returns c = λ C L ps kept.
    subst (λ o. IfSome o (IsOutcomeAt C.nodes L ps c.args.key)) (sym c.get.ensures.value) (kept_found C.nodes L ps c.args.self.now.steps.entries c.args.key kept.selected)
