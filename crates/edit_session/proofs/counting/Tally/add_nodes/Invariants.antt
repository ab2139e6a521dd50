-- What the nodes so far add.
use Rattle.std.proofs.Common.{take}
use Rattle.std.specs.Prelude.{sum_by}
use Rattle.edit_session.specs.inner.Counting.{Grows, node_adds}
use Rattle.edit_session.proofs.counting.Tally.add_nodes.Given as goal

abbrev pub invariant-loop-n : goal.invariant-loop-n
invariant-loop-n l = Grows l.initial.self l.self (λ what. sum_by (node_adds what l.found l.p l.rules) (take l.n-index l.nodes))
