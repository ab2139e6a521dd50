-- No nodes are a node-set.
use Rattle.std.proofs.Common.{◌∙◌, sym, ap}
use Rattle.std.proofs.lemmas.List.{nil_from_length}
use Rattle.doc_axes.specs.Sets.{in_order}
use Rattle.doc_axes.proofs.NodeSets.{none_in_order}
use Rattle.doc_axes.proofs.sets.stand_in_order.Goals as goal

pub returns-in-None : goal.returns-in-None
returns-in-None c = λ h.
    let T = c.args.tree.now.nodes in
    let none = nil_from_length c.args.nodes.now c.in-None.ensures.cases in
    none ∙ (sym (none_in_order T c.laws.ensures.ordered) ∙ ap (in_order T) (sym none))
