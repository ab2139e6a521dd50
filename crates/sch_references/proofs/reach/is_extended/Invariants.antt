-- The items so far do not extend it.
use Rattle.std.proofs.Common.{◌≡◌, drop}
use Rattle.std.specs.List.{flat_map}
use Rattle.sch_model.specs.Items.{extended_in}
use Rattle.sch_references.specs.References.{is_among}
use Rattle.sch_references.proofs.reach.is_extended.Given as goal

abbrev pub invariant-loop-item : goal.invariant-loop-item
invariant-loop-item l = is_among (flat_map extended_in l.items) l.id ≡ is_among (flat_map extended_in (drop l.item-index l.items)) l.id
