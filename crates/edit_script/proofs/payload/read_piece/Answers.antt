-- The fault has a line, and the events of a good fragment are a piece.
use Rattle.std.proofs.Common.{rules, Some, sym, arith}
use Rattle.edit_script.proofs.FaultLemmas.{near_fault}
use Rattle.edit_script.proofs.PieceLemmas.{formed_from}
use Rattle.edit_script.proofs.payload.read_piece.Goals as goal

pub bad_payload-requires-clause-near : goal.bad_payload-requires-clause-near
bad_payload-requires-clause-near c =
    rw c.in-Err-Fault.field-0-is
    (near_fault c.args.number c.args.text.now (Some c.in-Err-Fault.fault) (sym (rw c.in-Err-Fault.field-0-is at c.in-Err-Fault.ensures))
    (omega (arith, c.requires.short)))

pub returns-in-Ok-check_names-clause-formed : goal.returns-in-Ok-check_names-clause-formed
returns-in-Ok-check_names-clause-formed c =
    formed_from c.events_nest.ensures c.args.text.now _ (search rules) (search rules) (omega (arith, c.requires.short, c.requires.some))
