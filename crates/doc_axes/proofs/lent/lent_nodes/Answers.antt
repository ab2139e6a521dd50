-- The lists that the tree keeps are the axes' nodes.
use Rattle.std.proofs.Common.{ap, sym, ◌∙◌}
use Rattle.doc_axes.specs.Axes.{axis_nodes, backwards}
use Rattle.doc_axes.specs.Siblings.{kids_before, kids_behind}
use Rattle.doc_axes.proofs.SiblingLemmas.{first_kids}
use Rattle.doc_axes.proofs.lent.lent_nodes.Goals as goal

pub returns-in-Attribute-clause-nodes : goal.returns-in-Attribute-clause-nodes
returns-in-Attribute-clause-nodes c =
    c.from_start.ensures
    ∙ (c.attrs.ensures ∙ (sym (c.axes_by_cells.ensures.attribute c.args.n c.requires) ∙ ap (λ a. axis_nodes c.args.tree.now.nodes a c.args.n) (sym c.in-Attribute.is)))

pub returns-in-Child-clause-nodes : goal.returns-in-Child-clause-nodes
returns-in-Child-clause-nodes c =
    c.from_start-in-Child.ensures
    ∙ (c.kids.ensures ∙ (sym (c.axes_by_cells.ensures.child c.args.n c.requires) ∙ ap (λ a. axis_nodes c.args.tree.now.nodes a c.args.n) (sym c.in-Child.is)))

pub returns-in-FollowingSibling-clause-nodes : goal.returns-in-FollowingSibling-clause-nodes
returns-in-FollowingSibling-clause-nodes c =
    c.from_start-in-FollowingSibling.ensures
    ∙ (c.kids_behind.ensures
    ∙ (ap (kids_behind c.args.n) c.kids_beside.ensures.beside
    ∙ (sym (c.axes_by_cells.ensures.following_sibling c.args.n)
    ∙ ap (λ a. axis_nodes c.args.tree.now.nodes a c.args.n) (sym c.in-FollowingSibling.is))))

pub returns-in-PrecedingSibling-clause-nodes : goal.returns-in-PrecedingSibling-clause-nodes
returns-in-PrecedingSibling-clause-nodes c =
    c.from_end.ensures.lent
    ∙ (ap backwards (c.kids_before.ensures ∙ (ap (kids_before c.args.n) c.kids_beside-in-PrecedingSibling.ensures.beside ∙ sym (c.axes_by_cells.ensures.preceding_sibling c.args.n)))
    ∙ ap (λ a. axis_nodes c.args.tree.now.nodes a c.args.n) (sym c.in-PrecedingSibling.is))

pub returns-in-PrecedingSibling-clause-before : goal.returns-in-PrecedingSibling-clause-before
returns-in-PrecedingSibling-clause-before c = λ _. (
  c.from_end.ensures.turned,
  first_kids c.args.tree.now.nodes c.args.n c.from_end.result.nodes.now
      (c.from_end.ensures.nodes ∙ (c.kids_before.ensures ∙ ap (kids_before c.args.n) c.kids_beside-in-PrecedingSibling.ensures.beside)),
)
