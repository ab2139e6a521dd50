-- The value has its escapes undone.
use Rattle.std.proofs.Common.{rules}
use Rattle.edit_script.proofs.command_line.copy_attribute.Goals as goal

pub returns-clause-value : goal.returns-clause-value
returns-clause-value c = search rules
