-- Each label is the attribute of its name.
use Rattle.std.proofs.Common.{rules}
use Rattle.sch_source.proofs.source.Source.read_labels.Goals as goal

pub returns-clause-flag : goal.returns-clause-flag
returns-clause-flag c = search rules
