-- Nothing without one, and else all of them in an element.
use Rattle.std.proofs.Common.{◌≡◌, ◌++◌, List, OnOk, sym, ap, ◌∙◌, subst, append-nil}
use Rattle.std.specs.List.{flat_map}
use Rattle.pyx_core.specs.declared.event.Event.{Event}
use Rattle.sch_flat.specs.FlatDocument.{note_events}
use Rattle.sch_flat.proofs.WritingLemmas.{around_one, no_notes, some_notes, written}
use Rattle.sch_flat.proofs.notes.write_notes.Goals as goal

pub returns-then-is_empty : goal.returns-then-is_empty
returns-then-is_empty c =
    sym (ap (λ l. c.args.writer.now.events ++ l) (no_notes c.args.group.now c.args.name.now c.args.notes.now (sym c.is_empty.ensures ∙ c.if-is_empty.true)) ∙ append-nil c.args.writer.now.events)

pub returns : goal.returns
returns c =
    subst (λ (l : List Event). OnOk c.end.result (c.end.new.self.events ≡ c.args.writer.now.events ++ l))
    (sym (some_notes c.args.group.now c.args.name.now c.args.notes.now (sym c.is_empty.ensures ∙ c.if-is_empty.false)))
    (around_one _ _ _ _ _ _ _ _ c.in_ok-start.ensures (written (flat_map (note_events c.args.name.now)) _ _ _ _ c.as_slice.ensures c.in_ok-write_each.ensures) c.end.ensures)
