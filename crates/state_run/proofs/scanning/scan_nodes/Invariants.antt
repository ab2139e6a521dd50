-- The nodes so far have no fault.
use Rattle.state_run.specs.inner.Scanning.{fault_of_node, node_finds}
use Rattle.state_run.proofs.ScanningLemmas.{ScannedTo}
use Rattle.state_run.proofs.scanning.scan_nodes.Given as goal

abbrev pub invariant-loop-n : goal.invariant-loop-n
invariant-loop-n l = ScannedTo (fault_of_node l.found l.p) (node_finds l.found l.p) l.nodes l.n-index l.any
