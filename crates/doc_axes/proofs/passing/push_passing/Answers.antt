-- Nodes on an axis live, and all pass the test for any node.
use Rattle.std.proofs.Common.{◌≡◌, ◌++◌, OnOk, filter, ap, sym, ◌∙◌, subst}
use Rattle.doc_tree.specs.Lists.{mem}
use Rattle.doc_axes.specs.Axes.{axis_nodes}
use Rattle.doc_axes.specs.NodeTests.{passes}
use Rattle.doc_axes.proofs.LiveNodes.{all_pass, axis_live}
use Rattle.doc_axes.proofs.passing.push_passing.Goals as goal

pub push_those-requires : goal.push_those-requires
push_those-requires c = λ m h.
    axis_live c.args.tree.now.nodes c.laws.ensures.ordered c.args.axis c.args.n m (sym (ap (mem m) c.in-Some.ensures.nodes) ∙ h)

pub returns-then-not-is_turned-clause-pushed : goal.returns-then-not-is_turned-clause-pushed
returns-then-not-is_turned-clause-pushed c =
    let T = c.args.tree.now.nodes in
    let nodes = axis_nodes T c.args.axis c.args.n in
    subst (λ l. OnOk c.push_all_on.result (c.push_all_on.new.list ≡ c.args.list.now ++ l))
    (c.is_turned.ensures c.if-not-is_turned.true T c.args.n
    ∙ sym (ap (λ t. filter (passes T c.args.axis t) nodes) (c.is_any.ensures c.if-is_any.true) ∙ all_pass T c.args.axis nodes))
    c.push_all_on.ensures.pushed

pub push_those-requires-2 : goal.push_those-requires-2
push_those-requires-2 c = λ m h.
    axis_live c.args.tree.now.nodes c.laws.ensures.ordered c.args.axis c.args.n m (sym (ap (mem m) (c.from_start.ensures ∙ (c.as_slice.ensures ∙ c.in_ok-nodes.ensures))) ∙ h)
