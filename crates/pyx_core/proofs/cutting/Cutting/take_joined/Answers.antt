use Rattle.std.proofs.Common.{◌++◌}
use Rattle.pyx_core.specs.Reading.{judge}
use Rattle.pyx_core.proofs.StandingLemmas.{takes_none}
use Rattle.pyx_core.proofs.cutting.Cutting.take_joined.Goals as goal

pub returns-in_err-extend_from_slice-clause-reads : goal.returns-in_err-extend_from_slice-clause-reads
returns-in_err-extend_from_slice-clause-reads c = λ mode taken before reads number.
    takes_none c.args.self.now.standing mode taken before
    (judge mode before (c.args.self.now.half.items ++ c.args.bytes.now)) c.from_residual.result reads
    c.from_residual.ensures.0
