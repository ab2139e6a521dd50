-- By what each `extends` stands for.
use Rattle.sch_sizes.proofs.sizes.check_sizes.Goals as goal

pub returns : goal.returns
returns c = c.check_with.ensures c.extends_are_replaced.ensures
