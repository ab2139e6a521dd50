-- A new history keeps no entry.
use Rattle.std.proofs.Common.{[], subst, sym}
use Rattle.std.proofs.lemmas.List.Elements.{All-nil}
use Rattle.circular_buffer.specs.Buffer.{Buffer}
use Rattle.undo_entries.specs.declared.entry.Entry.{Entry}
use Rattle.sch_undo.specs.inner.Held.{NamesComeFirst, Stands}
use Rattle.sch_undo.proofs.history.History.open.Goals as goal

pub invariant_of-result : goal.invariant_of-result
invariant_of-result c =
    subst (λ (b : Buffer Entry). Stands (record { alloc = c.args.alloc; session = c.args.session; entries = b })) (sym c.in-Ok.ensures)
    (record { some = c.requires.some; few = c.requires.few; scoped = c.requires.scoped; names = All-nil NamesComeFirst; trees = []; stand = tt })
