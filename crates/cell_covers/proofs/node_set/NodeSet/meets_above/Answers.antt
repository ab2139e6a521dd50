-- The root is above each live node.
use Rattle.std.proofs.Common.{◌∙◌, sym}
use Rattle.doc_tree.specs.Walks.{above}
use Rattle.cell_covers.proofs.ClimbLemmas.{meets-at}
use Rattle.cell_covers.proofs.node_set.NodeSet.meets_above.Goals as goal

pub returns-then-contains : goal.returns-then-contains
returns-then-contains c =
    sym (meets-at 0 (above c.args.tree.now.nodes c.args.n) c.args.self.now.numbers.items
    (c.laws.ensures.well_formed.is_rooted c.args.n (sym c.contains.ensures ∙ c.if-contains.true)) (sym c.has_root.ensures ∙ c.if-has_root.true))
