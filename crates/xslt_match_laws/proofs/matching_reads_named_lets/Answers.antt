use Rattle.xslt_match_laws.proofs.Knowing.{matching_reads_named_lets}
use Rattle.xslt_match_laws.proofs.matching_reads_named_lets.Goals as goal

pub returns : goal.returns
returns c = matching_reads_named_lets
