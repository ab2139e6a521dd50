-- Nothing is kept, and nothing is known.
use Rattle.std.proofs.Common.{subst, sym}
use Rattle.std.specs.List.{AllByRecursion as Each}
use Rattle.xslt_match.specs.Kept.{IsOutcomeAt}
use Rattle.xslt_match.proofs.Keeping.{none_known}
use Rattle.xslt_match.proofs.kept.KeptSteps.new.Goals as goal

pub returns : goal.returns
returns c = λ C L ps. record {
  selected = subst (Each (λ e. IsOutcomeAt C.nodes L ps e.0 e.1)) (sym c.new.ensures.empty) tt;
  paths = none_known C.names ps c.new-2.result.items c.new-2.ensures.items;
}
