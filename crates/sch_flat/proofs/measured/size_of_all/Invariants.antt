-- The items so far are counted.
use Rattle.std.proofs.Common.{◌≡◌, take}
use Rattle.std.specs.List.{flat_map}
use Rattle.sch_flat.specs.FlatSize.{size_of}
use Rattle.sch_flat.proofs.measured.size_of_all.Given as goal

abbrev pub invariant-loop-item : goal.invariant-loop-item
invariant-loop-item g l = l.size ≡ size_of (flat_map g.T.Measured.events (take l.item-index l.item-items))
