-- One text more is converted, or its fault is that of all.
use Rattle.doc_tree.specs.Walks.{string_value_of}
use Rattle.xp_values.proofs.CompareLemmas.{numbers_step, error_step, exit}
use Rattle.xp_values.proofs.comparisons.numbers_of_nodes.Goals as goal

pub returns-in_err-number : goal.returns-in_err-number
returns-in_err-number c =
    exit c.from_residual.result c.in_err-number.field-0.0 _ c.from_residual.ensures.1
    (error_step (string_value_of c.args.tree.now.nodes) c.args.nodes.now c.loop-n.n-index c.n-item.result c.loop-n-test.true c.n-item.is
    c.loop-n.numbers c.in_err-number.field-0.0 c.loop-n.invariant c.in_err-number.ensures)

pub loop-n-preserved : goal.loop-n-preserved
loop-n-preserved c =
    numbers_step (string_value_of c.args.tree.now.nodes) c.args.nodes.now c.loop-n.n-index c.n-item.result c.loop-n-test.true c.n-item.is
    c.loop-n.numbers c.push.new.self c.in_ok-number.number c.loop-n.invariant c.in_ok-number.ensures c.in_ok-push.ensures.pushed
