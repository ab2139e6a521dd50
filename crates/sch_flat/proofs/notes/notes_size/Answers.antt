-- Nothing without one, and else all of them in an element.
use Rattle.std.proofs.Common.{ap, sym, ◌∙◌}
use Rattle.std.specs.List.{flat_map}
use Rattle.sch_flat.specs.FlatDocument.{note_events}
use Rattle.sch_flat.specs.FlatSize.{size_of}
use Rattle.sch_flat.proofs.WritingLemmas.{no_notes, some_notes}
use Rattle.sch_flat.proofs.notes.notes_size.Goals as goal

pub returns-then-is_empty : goal.returns-then-is_empty
returns-then-is_empty c =
    c.none.ensures ∙ ap size_of (sym (no_notes c.args.group.now c.args.name.now c.args.notes.now (sym c.is_empty.ensures ∙ c.if-is_empty.true)))

pub returns : goal.returns
returns c =
    let name = c.args.name.now in
    c.element_size.ensures (flat_map (note_events name) c.args.notes.now)
    (c.each_size.ensures ∙ ap (λ notes. size_of (flat_map (note_events name) notes)) c.as_slice.ensures)
    ∙ ap size_of (sym (some_notes c.args.group.now name c.args.notes.now (sym c.is_empty.ensures ∙ c.if-is_empty.false)))
