use Rattle.std.proofs.Common.{refl, sym}
use Rattle.xp_outcome.proofs.Runs.{ran_moved}
use Rattle.xp_meaning.specs.Results.{shown}
use Rattle.xslt_match.proofs.Repeating.{ran_told}
use Rattle.xslt_match.proofs.matching.Matcher.select.Goals as goal

pub returns : goal.returns
returns g c = λ k.
    c.selected.ensures _ k _ _ (ran_told k (shown c.step_at-nodes.result) (ran_moved (sym c.new-reads.ensures) c.settle.ensures refl refl c.step_at-nodes.ensures))
