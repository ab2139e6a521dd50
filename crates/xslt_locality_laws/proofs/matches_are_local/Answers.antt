-- Matching is local, since evaluations are.
use Rattle.xslt_locality_laws.proofs.MatchingLemmas.{patterns_are_local}
use Rattle.xslt_locality_laws.proofs.matches_are_local.Goals as goal

pub returns : goal.returns
returns c = patterns_are_local c.evaluations_are_local.ensures.steps c.evaluations_are_local.ensures.predicates
