-- The search finds the number where it stands there.
use Rattle.std.proofs.Common.{◌∙◌, ap₂, subst, sym}
use Rattle.std.specs.List.Sorted.{IsNonDecreasing}
use Rattle.doc_tree.specs.Lists.{mem}
use Rattle.cell_covers.proofs.FindLemmas.{search_found}
use Rattle.cell_covers.proofs.node_set.NodeSet.contains.Goals as goal

pub returns : goal.returns
returns c =
    c.is_ok.ensures.value
    ∙ search_found c.deref.result.now c.index.result c.binary_search.result (subst IsNonDecreasing (sym c.deref.ensures.value) c.args.self.now.rising) c.binary_search.ensures.position
    ∙ ap₂ mem c.index.ensures.value c.deref.ensures.value
