-- Those so far were written.
use Rattle.std.proofs.Common.{◌≡◌, ◌++◌, take}
use Rattle.std.specs.List.{flat_map}
use Rattle.sch_flat.specs.FlatDocument.{note_events}
use Rattle.sch_flat.proofs.notes.write_each.Given as goal

abbrev pub invariant-loop-note : goal.invariant-loop-note
invariant-loop-note l = l.writer.events ≡ l.initial.writer.events ++ flat_map (note_events l.name) (take l.note-index l.notes)
