-- The sets have the nodes that were gathered.
use Rattle.std.proofs.Common.{◌∙◌, ap}
use Rattle.doc_tree.specs.Lists.{mem}
use Rattle.cell_covers.proofs.SetLemmas.{stands_for}
use Rattle.cell_covers.proofs.covering.Covering.of.Goals as goal

pub returns : goal.returns
returns c =
    stands_for c.args.cells.now c.of.result.numbers.items c.of-2.result.numbers.items
    (λ n. c.of.ensures n ∙ ap (mem n) c.in_ok-shapes.ensures.shapes) (λ n. c.of-2.ensures n ∙ ap (mem n) c.in_ok-shapes.ensures.texts)
