-- From a number at which no node lives an axis has no nodes.
use Rattle.std.proofs.Common.{◌≡◌, [], ◌++◌, filter, sym, ap, ◌∙◌, append-nil}
use Rattle.doc_tree.specs.Table.{kind_of}
use Rattle.doc_axes.specs.Axes.{axis_nodes}
use Rattle.doc_axes.specs.NodeTests.{is_principal}
use Rattle.xp_eval.proofs.DeadNodes.{dead_axis}
use Rattle.xp_cells.proofs.push_named.Goals as goal

pub returns-else-contains : goal.returns-else-contains
returns-else-contains c =
    let T = c.args.tree.now.nodes in
    let axis = c.args.along.axis in
    let n = c.args.along.node in
    let none : axis_nodes T axis n ≡ [] =
    dead_axis T c.laws.ensures.ordered c.laws.ensures.ways_up c.laws.ensures.scopes n (sym c.contains.ensures ∙ c.if-contains.false) axis in
    sym (ap (λ ns. c.args.nodes.now ++ filter (λ m. is_principal axis (kind_of T m)) ns) none ∙ append-nil c.args.nodes.now)
