-- A command is done, or an undo.
use Rattle.sch_commands.proofs.undoing.Undoer.follow_item.Goals as goal

pub returns-in-Edit-clause-does : goal.returns-in-Edit-clause-does
returns-in-Edit-clause-does g c = rw c.in-Edit.is c.do_command.ensures.does

pub returns-in-Undo-clause-does : goal.returns-in-Undo-clause-does
returns-in-Undo-clause-does g c = rw c.in-Undo.is c.do_undo.ensures.does

pub do_command-requires-clause-formed : goal.do_command-requires-clause-formed
do_command-requires-clause-formed g c = rw c.in-Edit.is at c.requires.formed

pub do_command-requires-clause-ready : goal.do_command-requires-clause-ready
do_command-requires-clause-ready g c = rw c.in-Edit.is at c.requires.ready

pub do_undo-requires : goal.do_undo-requires
do_undo-requires g c = record { ready = rw c.in-Undo.is at c.requires.ready }
