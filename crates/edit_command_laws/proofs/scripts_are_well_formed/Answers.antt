-- Line by line.
use Rattle.edit_command_laws.proofs.ScriptsFormed.{scripts-formed}
use Rattle.edit_command_laws.proofs.scripts_are_well_formed.Goals as goal

pub returns : goal.returns
returns c = scripts-formed c.events_nest.ensures
