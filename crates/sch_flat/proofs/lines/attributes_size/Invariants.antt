-- The attributes so far are counted.
use Rattle.std.proofs.Common.{◌≡◌, map, take}
use Rattle.sch_flat.specs.FlatDocument.{only_given}
use Rattle.sch_flat.specs.inner.Given.{seen}
use Rattle.sch_flat.specs.inner.Sizes.{attrs_size}
use Rattle.sch_flat.proofs.lines.attributes_size.Given as goal

abbrev pub invariant-loop-given : goal.invariant-loop-given
invariant-loop-given l = l.size ≡ attrs_size (only_given (map seen (take l.given-index l.attributes)))
