use Rattle.sch_include.proofs.OneParts.{inclusion-one}
use Rattle.sch_include.proofs.laws.one_inclusion.Goals as goal

pub returns : goal.returns
returns c = inclusion-one c.one_tree.ensures c.one_table.ensures
