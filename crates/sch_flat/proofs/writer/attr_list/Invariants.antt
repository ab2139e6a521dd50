-- The attributes so far were read.
use Rattle.std.proofs.Common.{◌≡◌, map, take}
use Rattle.sch_flat.specs.FlatDocument.{only_given}
use Rattle.sch_flat.specs.inner.Given.{seen}
use Rattle.sch_flat.proofs.writer.attr_list.Given as goal

abbrev pub invariant-loop-given : goal.invariant-loop-given
invariant-loop-given l = l.attrs ≡ only_given (map seen (take l.given-index l.attributes))
