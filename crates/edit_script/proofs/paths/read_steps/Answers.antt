use Rattle.std.proofs.Common.{◌∙◌}
use Rattle.edit_script.proofs.PathLemmas.{steps_first}
use Rattle.edit_script.proofs.paths.read_steps.Goals as goal

pub returns-in-Ok-true : goal.returns-in-Ok-true
returns-in-Ok-true c = (rw c.in-Ok-true.field-0-test at c.in-Ok-true.ensures) ∙ steps_first _ _ c.new-path.ensures

pub returns-in-Ok-false : goal.returns-in-Ok-false
returns-in-Ok-false c = (rw c.in-Ok-false.field-0-test at c.in-Ok-false.ensures) ∙ steps_first _ _ c.new-path.ensures
