-- What nodes add under the patterns so far.
use Rattle.std.proofs.Common.{◌≡◌}
use Rattle.std.specs.Prelude.{sum_by}
use Rattle.std.specs.List.{range_with_len}
use Rattle.edit_session.specs.inner.Counting.{Counted, nodes_add, part}
use Rattle.edit_session.proofs.counting.tally_of_pairs.Given as goal

abbrev pub invariant-loop-p : goal.invariant-loop-p
invariant-loop-p l = (what : Counted) → part what l.tally ≡ sum_by (nodes_add what l.plan l.found l.nodes) (range_with_len 0 l.p)
