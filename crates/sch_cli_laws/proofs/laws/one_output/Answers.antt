-- One thing alone may come of each stage.
use Rattle.sch_cli_laws.proofs.OneOutput.{one-output}
use Rattle.sch_cli_laws.proofs.laws.one_output.Goals as goal

pub returns : goal.returns
returns c = λ words files output other this that. one-output c.one_tree.ensures c.one_inclusion.ensures c.one_plan.ensures c.one_edit.ensures c.one_reading.ensures files words output other this that
