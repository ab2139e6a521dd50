-- They are the nodes in document order that are told of.
use Rattle.std.proofs.lemmas.Result.{IfOk-weaker}
use Rattle.doc_tree.specs.Lists.{mem}
use Rattle.sch_compiled.specs.Findings.{ToldInOrder}
use Rattle.edit_session.proofs.told.told_in_order.Goals as goal

pub returns : goal.returns
returns c = IfOk-weaker c.into_document_order.result _ (ToldInOrder c.args.tree.now.nodes c.args.found.now)
    (λ nodes is. record { among = λ m. mem m c.in_ok-told.told; in_order = is; all = c.in_ok-told.ensures.all }) c.into_document_order.ensures
