-- The tree counts elements of one expanded name before the one that passes.
use Rattle.doc_axes.proofs.Lending.{counted_behind_one, if_some}
use Rattle.doc_axes.proofs.placed.counted_before.Goals as goal

pub returns-in-PrecedingSibling-Named : goal.returns-in-PrecedingSibling-Named
returns-in-PrecedingSibling-Named c =
    if_some c.alike_before.result c.alike_before.ensures
    (λ count counts. counted_behind_one c.args.tree.now.nodes c.args.axis c.args.test.now _ _ c.args.lent c.args.next c.at.result count c.in-PrecedingSibling-Named.is-0 c.in-PrecedingSibling-Named.is-1
    (c.requires.before c.in-PrecedingSibling-Named.is-0) c.requires.passing c.requires.within c.at.ensures counts)
