-- One more.
use Rattle.std.proofs.Common.{take, ap, sym, ◌∙◌}
use Rattle.std.specs.List.{flat_map}
use Rattle.sch_flat.specs.FlatDocument.{note_events}
use Rattle.sch_flat.specs.FlatSize.{size_of}
use Rattle.sch_flat.proofs.ListLemmas.{flat_map_next}
use Rattle.sch_flat.proofs.notes.each_size.Goals as goal

pub loop-note-preserved : goal.loop-note-preserved
loop-note-preserved c =
    let notes = c.args.notes.now in
    let events = note_events c.args.name.now in
    c.then-size.ensures (flat_map events (take c.loop-note.note-index notes)) (events c.note-item.result) c.loop-note.invariant c.note_size.ensures
    ∙ ap size_of (sym (flat_map_next events notes c.loop-note.note-index c.note-item.result c.note-item.is c.loop-note-test.true))
