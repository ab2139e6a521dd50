-- What is written for a script has visits.
use Rattle.sch_cli_laws.proofs.SomeCost.{some-cost}
use Rattle.sch_cli_laws.proofs.laws.some_cost.Goals as goal

pub returns : goal.returns
returns c = some-cost
