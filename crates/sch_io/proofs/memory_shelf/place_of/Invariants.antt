use Rattle.std.proofs.Common.{◌≡◌, drop, map}
use Rattle.std.specs.Ordering.{nat_cmp}
use Rattle.std.specs.Cmp.Lexicographic.{slice_cmp}
use Rattle.std.specs.FinMap.{find}
use Rattle.sch_io.specs.inner.NamedFiles.{entry_of}
use Rattle.sch_io.proofs.memory_shelf.place_of.Given as goal

abbrev pub invariant-loop-place : goal.invariant-loop-place
invariant-loop-place l = find (slice_cmp nat_cmp) l.name (map entry_of l.files) ≡ find (slice_cmp nat_cmp) l.name (map entry_of (drop l.place l.files))
