-- One after another.
use Rattle.std.proofs.Common.{◌++◌}
use Rattle.std.specs.List.{flat_map}
use Rattle.sch_flat.specs.FlatDocument.{diagnostics_events, let_events, ns_events, pattern_events, phase_events, properties_events, title_events}
use Rattle.sch_flat.proofs.schema_size.held_size.Goals as goal

pub returns : goal.returns
returns c = λ its is.
    let parts = c.args.parts in
    let diagnostics = diagnostics_events parts.diagnostics.now in
    let properties = properties_events parts.properties.now in
    let notes = diagnostics ++ properties in
    let patterns = flat_map pattern_events its in
    let phases = flat_map phase_events parts.phases.now in
    let lets = flat_map let_events parts.lets.now in
    let ns = flat_map ns_events parts.ns.now in
    let from_notes = c.then.ensures diagnostics properties c.notes_size-diagnostics.ensures c.notes_size-properties.ensures in
    let last = c.then-last.ensures patterns notes is from_notes in
    let from_phases = c.then-2.ensures phases (patterns ++ notes) c.size_of_all-2.ensures last in
    let later = c.then-later.ensures lets (phases ++ (patterns ++ notes)) c.size_of_all.ensures from_phases in
    let from_ns = c.then-3.ensures ns (lets ++ (phases ++ (patterns ++ notes))) c.size_of_all-3.ensures later in
    c.then-4.ensures (title_events parts.head.now.title) (ns ++ (lets ++ (phases ++ (patterns ++ notes)))) c.title_size.ensures from_ns
