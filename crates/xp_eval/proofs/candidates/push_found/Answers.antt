-- From a number at which no node lives an axis has no nodes.
use Rattle.std.proofs.Common.{◌≡◌, [], ◌++◌, filter, length, sym, ap, ◌∙◌, append-nil}
use Rattle.doc_axes.specs.Axes.{axis_nodes}
use Rattle.doc_axes.specs.NodeTests.{passes}
use Rattle.xp_typed_tree.specs.declared.expr.TypedStep.{out-TypedStep}
use Rattle.xp_eval.proofs.DeadNodes.{dead_axis}
use Rattle.xp_eval.proofs.candidates.push_found.Goals as goal

pub returns-else-contains : goal.returns-else-contains
returns-else-contains c =
    let T = c.args.tree.now.nodes in
    let axis = (out-TypedStep c.args.step.now).axis in
    let none : axis_nodes T axis c.args.n ≡ [] =
    dead_axis T c.laws.ensures.ordered c.laws.ensures.ways_up c.laws.ensures.scopes c.args.n (sym c.contains.ensures ∙ c.if-contains.false) axis in
    record {
      pushed = sym (ap (λ ns. c.args.list.now ++ filter (passes T axis (out-TypedStep c.args.step.now).test) ns) none ∙ append-nil c.args.list.now);
      counted = sym (ap length none);
    }
