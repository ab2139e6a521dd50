use Rattle.sch_base.proofs.NameLemmas.{qname_splits}
use Rattle.sch_base.proofs.laws.qnames_split.Goals as goal

pub returns : goal.returns
returns c = qname_splits
