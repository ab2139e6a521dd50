-- The items so far were written.
use Rattle.std.proofs.Common.{◌≡◌, ◌++◌, take}
use Rattle.std.specs.List.{flat_map}
use Rattle.sch_flat.proofs.writer.Writer.all.Given as goal

abbrev pub invariant-loop-item : goal.invariant-loop-item
invariant-loop-item g l = l.self.events ≡ l.initial.self.events ++ flat_map g.T.InDocument.events (take l.item-index l.item-items)
