use Rattle.std.proofs.Common.{◌≡◌, false, take}
use Rattle.std.specs.List.{list_any}
use Rattle.xslt_ways.specs.Ways.{looks_at}
use Rattle.xslt_ways.proofs.looking.looks_at_some.Given as goal

abbrev pub invariant-loop-p : goal.invariant-loop-p
invariant-loop-p l = list_any (looks_at l.tree.nodes l.join l.m) (take l.p-index l.nodes) ≡ false
