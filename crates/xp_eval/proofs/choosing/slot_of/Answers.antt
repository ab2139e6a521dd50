use Rattle.xp_eval.proofs.Views.{view-Variable}
use Rattle.xp_eval.proofs.choosing.slot_of.Goals as goal

pub returns-in-Variable : goal.returns-in-Variable
returns-in-Variable c = λ T L at. view-Variable T L c.args.expr.now at _ _ c.in-Variable.is
