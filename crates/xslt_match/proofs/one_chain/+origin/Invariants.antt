use Rattle.std.proofs.Common.{length}
use Rattle.xslt_match.proofs.one_chain.+origin.Given as goal

abbrev pub decreases-origin : goal.decreases-origin
decreases-origin l = length l.path_steps.now
