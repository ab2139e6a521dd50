-- The lines of the command were taken, behind the empty ones.
use Rattle.std.proofs.Common.{subst}
use Rattle.edit_script.specs.Script.{LinesLeft, Takes, left_from}
use Rattle.edit_script.proofs.TakenLemmas.{next_taken}
use Rattle.edit_script.proofs.reader.ScriptReader.next.Goals as goal

pub returns-in-Ok-clause-taken : goal.returns-in-Ok-clause-taken
returns-in-Ok-clause-taken c =
    let taken = c.in-Ok.taken in
    subst (λ (old : LinesLeft). Takes taken.command old (left_from taken.number taken.rest.now c.self.inside.faulted)) c.self.view_is
    (next_taken c.self.inside.number c.self.inside.rest.now c.in-Some.next.number c.in-Some.next.line.now c.in-Some.next.rest.now c.in-Some.ensures taken c.self.inside.faulted c.in-Ok.ensures.taken)
