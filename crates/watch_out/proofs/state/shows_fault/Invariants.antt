-- None of the watches so far meets a fault.
use Rattle.std.proofs.Common.{◌≡◌, false, take}
use Rattle.std.specs.List.{list_any}
use Rattle.xp_watch.specs.Costs.{has_fault}
use Rattle.xp_watch.specs.Watched.{watches_of}
use Rattle.watch_out.proofs.state.shows_fault.Given as goal

abbrev pub invariant-loop-k : goal.invariant-loop-k
invariant-loop-k l = list_any (has_fault l.fn.watch.tree.nodes l.fn.watch.expressions) (take l.k (watches_of l.fn.watch.expressions)) ≡ false
