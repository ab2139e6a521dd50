-- The first node that passes settles the answer, and no node before it does.
use Rattle.std.proofs.Common.{◌∙◌, sym}
use Rattle.doc_tree.specs.Walks.{string_value_of}
use Rattle.xp_values.specs.Comparisons.{text_test}
use Rattle.xp_values.proofs.TextCompareLemmas.{some_here, none_yet, none_at_all}
use Rattle.xp_values.proofs.text_comparisons.some_passes.Goals as goal

pub returns-then-passes : goal.returns-then-passes
returns-then-passes c =
    some_here (λ n. text_test c.args.op (string_value_of c.args.tree.now.nodes n) c.args.text.now) c.args.nodes.now c.loop-n.n-index c.n-item.result c.loop-n-test.true c.n-item.is
    (sym c.in_ok-passes.ensures ∙ c.if-passes.true)

pub loop-n-preserved : goal.loop-n-preserved
loop-n-preserved c =
    none_yet (λ n. text_test c.args.op (string_value_of c.args.tree.now.nodes n) c.args.text.now) c.args.nodes.now c.loop-n.n-index c.n-item.result c.loop-n-test.true c.n-item.is
    c.loop-n.invariant (sym c.in_ok-passes.ensures ∙ c.if-passes.false)

pub returns : goal.returns
returns c =
    none_at_all (λ n. text_test c.args.op (string_value_of c.args.tree.now.nodes n) c.args.text.now) c.args.nodes.now c.loop-n.n-index c.loop-n-test.false c.loop-n.invariant
