-- The tree of its text is the same tree, and so as many nodes are renumbered.
use Rattle.std.proofs.Common.{length, ap, ◌∙◌}
use Rattle.std.proofs.lemmas.List.{length-map}
use Rattle.doc_tree.specs.SameTree.{SameTree}
use Rattle.doc_tree.specs.Walks.{order}
use Rattle.tree_iso.specs.Renumbering.{Renumbers, renumbered}
use Rattle.state_iso_laws.proofs.saved_documents_show_the_same.Goals as goal

pub returns : goal.returns
returns c = λ T U form scope document scoped.
    let same : SameTree T U = (c.tree_comes_back.ensures T U form scope document scoped).0 in
    let goes : Renumbers (renumbered T U) T U = c.same_trees_are_renumbered.ensures T U form scoped.well_formed same in (
      ap length goes.in_order ∙ length-map (order T) (renumbered T U),
      λ plan. c.same_trees_show_the_same.ensures plan T U form scoped.well_formed same,
    )
