-- The root stands outside the piece, and has no attributes.
use Rattle.std.proofs.Common.{arith}
use Rattle.doc_tree.proofs.InsertLemmas.{nodes-brought}
use Rattle.doc_tree.proofs.tree.Tree.nodes_brought.Goals as goal

pub overflow_sub-result : goal.overflow_sub-result
overflow_sub-result c = omega (arith, c.live_nodes.ensures, nodes-brought c.args.self.now.nodes c.laws.ensures.well_formed c.laws.ensures.ordered)

pub returns : goal.returns
returns c = omega (arith, c.live_nodes.ensures, nodes-brought c.args.self.now.nodes c.laws.ensures.well_formed c.laws.ensures.ordered)
