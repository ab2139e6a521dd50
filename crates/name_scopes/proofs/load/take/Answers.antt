-- A fault stands in the line of its event.
use Rattle.std.proofs.Common.{ap}
use Rattle.std.specs.Prelude.{option_map}
use Rattle.name_scopes.specs.DocFaults.{fault_at}
use Rattle.name_scopes.proofs.load.take.Goals as goal

pub returns-in-Ok : goal.returns-in-Ok
returns-in-Ok c = λ taken place standing loads comes. c.in-Ok.ensures taken place standing loads comes

pub returns-in-Err-Kind : goal.returns-in-Err-Kind
returns-in-Err-Kind c = λ taken place standing loads comes.
    let faulty = rw c.in-Err-Kind.field-0-is at c.in-Err-Kind.ensures in
    ap (option_map (fault_at c.args.found.now.line)) (faulty taken place standing loads comes)
