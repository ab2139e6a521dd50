-- No rule on the element is broken.
use Rattle.std.proofs.Common.{rules}
use Rattle.sch_read.proofs.check.Checker.element_fault.Goals as goal

pub returns : goal.returns
returns c = search rules
