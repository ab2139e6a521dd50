use Rattle.std.proofs.Common.{◌∙◌}
use Rattle.sch_io.proofs.Places.{found_here, found_later}
use Rattle.sch_io.proofs.memory_shelf.place_of.Goals as goal

pub returns-then-eq : goal.returns-then-eq
returns-then-eq c =
    c.loop-place.invariant ∙ found_here _ _ _ c.index-files-place.result c.loop-place-test.true c.index-files-place.is (rw c.as_str.ensures.value at c.if-eq.ensures)

pub loop-place-preserved : goal.loop-place-preserved
loop-place-preserved c =
    c.loop-place.invariant ∙ found_later _ _ _ c.index-files-place.result c.loop-place-test.true c.index-files-place.is (rw c.as_str.ensures.value at c.if-eq.ensures)
