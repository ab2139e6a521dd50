-- They are told whole, or a front of it was written.
use Rattle.std.proofs.Common.{refl}
use Rattle.watch_out.specs.Lines.{watch_text}
use Rattle.sch_commands.proofs.WatchLemmas.{given_stopped, given_written}
use Rattle.sch_commands.proofs.watching.write_given.Goals as goal

pub returns-in-Ok-clause-wrote : goal.returns-in-Ok-clause-wrote
returns-in-Ok-clause-wrote g c = given_written _ _ (watch_text c.args.watch.now.tree.nodes c.args.watch.now.expressions) c.shown_of.result c.in-Ok.ensures

pub returns-in-Err-clause-wrote : goal.returns-in-Err-clause-wrote
returns-in-Err-clause-wrote g c =
    given_stopped _ _ (watch_text c.args.watch.now.tree.nodes c.args.watch.now.expressions) c.in-Err.error _ c.stop_of.result refl c.stop_of.ensures c.in-Err.ensures

pub returns-in-Ok-clause-shown : goal.returns-in-Ok-clause-shown
returns-in-Ok-clause-shown g c = rw c.shows_fault.ensures at c.shown_of.ensures
