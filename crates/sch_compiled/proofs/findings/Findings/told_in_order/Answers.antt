-- All nodes in order, or those that are told of.
use Rattle.std.proofs.lemmas.Result.{IfOk-weaker}
use Rattle.doc_tree.specs.Lists.{mem}
use Rattle.sch_compiled.specs.Findings.{ToldInOrder}
use Rattle.sch_compiled.proofs.MarkLemmas.{all-in_order}
use Rattle.sch_compiled.proofs.findings.Findings.told_in_order.Goals as goal

pub returns-then-len-live_nodes : goal.returns-then-len-live_nodes
returns-then-len-live_nodes c = IfOk-weaker c.nodes_in_order.result _ (ToldInOrder c.args.tree.now.nodes c.args.self.now)
    (λ nodes is. all-in_order c.args.tree.now.nodes c.args.self.now nodes is) c.nodes_in_order.ensures

pub returns : goal.returns
returns c = IfOk-weaker c.into_document_order.result _ (ToldInOrder c.args.tree.now.nodes c.args.self.now)
    (λ nodes is. record { among = λ m. mem m c.in_ok-told.told; in_order = is; all = c.in_ok-told.ensures.all }) c.into_document_order.ensures
