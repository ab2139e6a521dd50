-- The fault of a fragment stands in one of its lines, or in the line after its last.
use Rattle.std.proofs.Common.{length, ap, arith}
use Rattle.edit_script.proofs.FaultLemmas.{near_fault}
use Rattle.edit_script.proofs.payload.unended.Goals as goal

pub bad_payload-requires-clause-near : goal.bad_payload-requires-clause-near
bad_payload-requires-clause-near c =
    near_fault c.args.number c.as_slice.result.now c.in_ok-front.front.fault c.in_ok-front.ensures.fault
    (omega (arith, ap length c.as_slice.ensures.value, c.in_ok-whole.ensures.short, c.requires))
