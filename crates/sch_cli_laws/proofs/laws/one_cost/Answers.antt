-- One count of visits alone may come of a run.
use Rattle.sch_cli_laws.proofs.OneCost.{one-cost}
use Rattle.sch_cli_laws.proofs.laws.one_cost.Goals as goal

pub returns : goal.returns
returns c = one-cost c.one_tree.ensures c.one_inclusion.ensures c.one_plan.ensures c.one_edit.ensures c.one_reading.ensures
