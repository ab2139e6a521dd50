-- The files of the shelf are those that it holds.
use Rattle.std.proofs.Common.{refl}
use Rattle.sch_commands.proofs.measuring.load_from.Goals as goal

pub returns-in-Ok-clause-loaded : goal.returns-in-Ok-clause-loaded
returns-in-Ok-clause-loaded c = (c.in-Ok.ensures.reads.opened, c.in-Ok.ensures.reads.came c.args.shelf.files refl)
