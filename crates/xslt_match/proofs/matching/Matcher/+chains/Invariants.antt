use Rattle.std.proofs.Common.{length}
use Rattle.xslt_match.proofs.matching.Matcher.+chains.Given as goal

abbrev pub decreases-chains : goal.decreases-chains
decreases-chains g l = length l.front.now.later.now
