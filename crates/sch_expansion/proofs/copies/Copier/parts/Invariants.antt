-- Those so far were copied.
use Rattle.std.proofs.Common.{◌≡◌, ◌++◌, drop, map}
use Rattle.sch_expansion.specs.Flat.{part_with}
use Rattle.sch_expansion.specs.inner.Copies.{change_of}
use Rattle.sch_expansion.proofs.copies.Copier.parts.Given as goal

abbrev pub invariant-loop-part : goal.invariant-loop-part
invariant-loop-part l = l.its ++ map (part_with (change_of l.self)) (drop l.part-index l.parts) ≡ map (part_with (change_of l.self)) l.parts
