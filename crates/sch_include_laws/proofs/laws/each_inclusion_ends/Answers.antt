-- The files are walked, one inside another.
use Rattle.sch_include_laws.proofs.Wholes.{some-inclusion}
use Rattle.sch_include_laws.proofs.laws.each_inclusion_ends.Goals as goal

pub returns : goal.returns
returns c = some-inclusion c.documents_have_trees.ensures
