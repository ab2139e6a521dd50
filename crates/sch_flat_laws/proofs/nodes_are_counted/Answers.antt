-- Each line but a declaration and an end begins a node.
use Rattle.sch_flat_laws.proofs.Document.CountLemmas.{nodes_counted}
use Rattle.sch_flat_laws.proofs.nodes_are_counted.Goals as goal

pub returns : goal.returns
returns c = nodes_counted
