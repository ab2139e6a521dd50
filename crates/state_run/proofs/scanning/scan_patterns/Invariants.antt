-- The patterns so far have no fault.
use Rattle.std.specs.List.{range_with_len}
use Rattle.state_run.specs.inner.Scanning.{fault_of_nodes, nodes_find}
use Rattle.state_run.proofs.ScanningLemmas.{ScannedTo}
use Rattle.state_run.proofs.scanning.scan_patterns.Given as goal

abbrev pub invariant-loop-p : goal.invariant-loop-p
invariant-loop-p l = ScannedTo (fault_of_nodes l.found l.nodes) (nodes_find l.found l.nodes) (range_with_len 0 l.patterns) l.p l.any
