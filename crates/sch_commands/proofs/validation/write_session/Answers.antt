-- The state that the session writes is that of its document.
use Rattle.std.proofs.Common.{refl}
use Rattle.sch_commands.proofs.EndLemmas.{report_stopped, report_written}
use Rattle.sch_commands.proofs.SessionLemmas.{evaluated-as}
use Rattle.sch_commands.proofs.validation.write_session.Goals as goal

pub returns-in-Err-clause-wrote : goal.returns-in-Err-clause-wrote
returns-in-Err-clause-wrote g c =
    report_stopped _ _ c.args.session.now.plan c.args.session.now.tree.nodes c.in-Err.error _ c.stop_of.result refl c.stop_of.ensures c.in-Err.ensures.wrote

pub returns-in-Ok-clause-wrote : goal.returns-in-Ok-clause-wrote
returns-in-Ok-clause-wrote g c = report_written _ _ c.args.session.now.plan c.args.session.now.tree.nodes c.in-Ok.last c.in-Ok.ensures.wrote

pub returns-in-Ok-clause-rose : goal.returns-in-Ok-clause-rose
returns-in-Ok-clause-rose g c = record { at_most = c.in-Ok.ensures.at_most; exactly = c.in-Ok.ensures.exactly }

pub returns-in-Ok-clause-fresh : goal.returns-in-Ok-clause-fresh
returns-in-Ok-clause-fresh g c = evaluated-as c.args.session.now c.report.new.self c.in-Ok.ensures.plan c.in-Ok.ensures.tree c.in-Ok.ensures.fresh
