-- Those so far were met.
use Rattle.std.proofs.Common.{take}
use Rattle.std.specs.List.{flat_map}
use Rattle.sch_model.specs.Items.{extended_in}
use Rattle.sch_references.specs.inner.Ways.{AddsAll}
use Rattle.sch_references.proofs.order.RuleOrder.meet_items.Given as goal

abbrev pub invariant-loop-item : goal.invariant-loop-item
invariant-loop-item l = AddsAll l.self (flat_map extended_in (take l.item-index l.items)) l.initial.found l.found
