use Rattle.std.proofs.Common.{◌≡◌, true, subst, arith}
use Rattle.doc_tree.specs.Lists.{mem}
use Rattle.doc_tree.proofs.ListLemmas.{mem-get}
use Rattle.doc_axes.specs.inner.Lending.{lent_nodes}
use Rattle.doc_axes.proofs.passing.push_those.Goals as goal

pub passes_by-stays-requires-clause-live : goal.passes_by-stays-requires-clause-live
passes_by-stays-requires-clause-live c =
    let nodes = lent_nodes c.args.lent in
    c.requires c.at-n.result
    (subst (λ m. mem m nodes ≡ true) c.at-n.ensures (mem-get nodes c.loop-place.place c.at-n.result (omega (arith, c.loop-place-test.true, c.len-count.ensures))))
