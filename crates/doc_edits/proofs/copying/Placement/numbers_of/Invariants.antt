use Rattle.std.proofs.Common.{◌≡◌, map, take}
use Rattle.doc_edits.specs.inner.Copies.{number_in}
use Rattle.doc_edits.proofs.copying.Placement.numbers_of.Given as goal

abbrev pub invariant-loop-n : goal.invariant-loop-n
invariant-loop-n l = l.list ≡ map (number_in l.self) (take l.n-index l.nodes)
