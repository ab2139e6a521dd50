-- A text that comes to be written is a front of the output's bytes.
use Rattle.sch_cli_laws.proofs.Fronts.{begun-is-front}
use Rattle.sch_cli_laws.proofs.laws.begun_is_front.Goals as goal

pub returns : goal.returns
returns c = begun-is-front c.one_tree.ensures c.one_inclusion.ensures c.one_plan.ensures c.one_edit.ensures c.one_reading.ensures
