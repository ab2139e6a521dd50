use Rattle.std.proofs.Common.{◌≡◌, filter, take}
use Rattle.std.specs.List.{list_any}
use Rattle.xslt_ways.specs.Ways.{looks_at}
use Rattle.xslt_ways.proofs.looking.looking_at.Given as goal

abbrev pub invariant-loop-m : goal.invariant-loop-m
invariant-loop-m l = l.found ≡ filter (λ m. list_any (looks_at l.tree.nodes l.join m) l.nodes) (take l.m-index l.way)
