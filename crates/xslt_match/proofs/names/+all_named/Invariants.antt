use Rattle.std.proofs.Common.{length}
use Rattle.xslt_match.proofs.names.+all_named.Given as goal

abbrev pub decreases-all_named : goal.decreases-all_named
decreases-all_named l = length l.path_steps.now
