-- The nodes before it have a cell for each pattern.
use Rattle.std.proofs.Common.{rules}
use Rattle.sch_compiled.proofs.findings.place_of.Goals as goal

pub returns-clause-place : goal.returns-clause-place
returns-clause-place c = search rules
