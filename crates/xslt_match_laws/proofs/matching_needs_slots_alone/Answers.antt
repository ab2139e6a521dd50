use Rattle.xslt_match_laws.proofs.Agreeing.{matching_needs_slots_alone}
use Rattle.xslt_match_laws.proofs.matching_needs_slots_alone.Goals as goal

pub returns : goal.returns
returns c = matching_needs_slots_alone
