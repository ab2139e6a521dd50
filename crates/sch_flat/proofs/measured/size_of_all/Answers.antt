-- One item more.
use Rattle.std.proofs.Common.{take, ap, sym, ◌∙◌}
use Rattle.std.specs.List.{flat_map}
use Rattle.sch_flat.specs.FlatSize.{size_of}
use Rattle.sch_flat.proofs.ListLemmas.{flat_map_next}
use Rattle.sch_flat.proofs.measured.size_of_all.Goals as goal

pub loop-item-preserved : goal.loop-item-preserved
loop-item-preserved g c =
    let items = c.as_slice-item-items.result.now in
    let events = g.T.Measured.events in
    c.then-size.ensures (flat_map events (take c.loop-item.item-index items)) (events c.item-item.result) c.loop-item.invariant c.size.ensures
    ∙ ap size_of (sym (flat_map_next events items c.loop-item.item-index c.item-item.result c.item-item.is c.loop-item-test.true))
