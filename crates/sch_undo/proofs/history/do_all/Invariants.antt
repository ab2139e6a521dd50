-- The commands so far were done.
use Rattle.std.proofs.Common.{take}
use Rattle.sch_undo.specs.inner.Doing.{Did}
use Rattle.sch_undo.proofs.history.do_all.Given as goal

abbrev pub invariant-loop-command : goal.invariant-loop-command
invariant-loop-command l = Did l.initial.session (take l.command-index l.commands) l.session
