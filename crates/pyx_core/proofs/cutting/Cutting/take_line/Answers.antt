use Rattle.std.proofs.Common.{◌≡◌, ◌++◌, suc, length, refl, arith}
use Rattle.pyx_core.specs.Reading.{judge}
use Rattle.pyx_core.proofs.CuttingLemmas.{cuts_ok, cuts_err}
use Rattle.pyx_core.proofs.cutting.Cutting.take_line.Goals as goal

pub returns-in_err-kind : goal.returns-in_err-kind
returns-in_err-kind c = λ mode taken before half stands less.
    let number : c.saturating_add-number.result ≡ suc (length before) = omega (arith, c.saturating_add-number.ensures, stands.count) in
    cuts_err c.take_joined.new.self mode taken before (judge mode before (half ++ c.args.bytes.now)) _ c.from_residual.result
    (rw stands.half_is at (c.in_err-kind.ensures.reads mode taken before stands.reads number)) c.from_residual.ensures.0

pub returns : goal.returns
returns c = λ mode taken before half stands less.
    let number : c.saturating_add-number.result ≡ suc (length before) = omega (arith, c.saturating_add-number.ensures, stands.count) in
    rw c.fault_in.ensures
    (cuts_ok _ mode taken before (judge mode before (half ++ c.args.bytes.now)) c.in_ok-kind.kind c.saturating_add-number.result
    (rw stands.half_is at (c.in_ok-kind.ensures.reads mode taken before stands.reads number)) refl c.in_ok-kind.ensures.half number)
