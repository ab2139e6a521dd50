use Rattle.std.proofs.Common.{sym, ◌∙◌}
use Rattle.pyx_core.proofs.ReaderLemmas.{events_before}
use Rattle.pyx_core.proofs.reading.fault_of_whole.Goals as goal

pub returns-in-Err-Fault : goal.returns-in-Err-Fault
returns-in-Err-Fault c = λ mode reads.
    let told = rw c.in-Err-Fault.field-0-is at (c.in-Err-Fault.ensures mode reads) in
    (sym told.0, told.1 ∙ sym (events_before mode c.args.bytes.now c.in-Err-Fault.fault told.0))
