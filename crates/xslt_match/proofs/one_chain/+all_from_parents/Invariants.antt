use Rattle.std.proofs.Common.{length}
use Rattle.xslt_match.proofs.one_chain.+all_from_parents.Given as goal

abbrev pub decreases-all_from_parents : goal.decreases-all_from_parents
decreases-all_from_parents l = length l.path_steps.now
