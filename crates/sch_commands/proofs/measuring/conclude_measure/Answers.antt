-- Where a state is a fault nothing is written.
use Rattle.std.proofs.Common.{refl}
use Rattle.sch_commands.proofs.measuring.conclude_measure.Goals as goal

pub returns-then-faulted : goal.returns-then-faulted
returns-then-faulted g c = rw c.if-faulted.true (refl, refl)

pub returns : goal.returns
returns g c = rw c.if-faulted.false (c.write_measured.ensures.wrote, c.write_measured.ensures.shown)
