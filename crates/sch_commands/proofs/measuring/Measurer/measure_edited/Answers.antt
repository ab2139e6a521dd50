-- A state more may be a fault.
use Rattle.std.proofs.Common.{◌∙◌, ◌||◌, ap}
use Rattle.sch_commands.specs.declared.measuring.Measured.{Measured}
use Rattle.sch_commands.proofs.measuring.Measurer.measure_edited.Goals as goal

pub returns-clause-faulted : goal.returns-clause-faulted
returns-clause-faulted g c = c.either-self.ensures ∙ ap (λ (m : Measured). c.args.self.now.faulted || m.counts.faulted) c.in_ok-last.ensures.measured
