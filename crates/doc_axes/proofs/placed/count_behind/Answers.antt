-- Those behind are counted in the tree, or one by one.
use Rattle.std.proofs.Common.{◌≡◌, true, ap, sym, ◌∙◌, subst, filter, length}
use Rattle.doc_tree.specs.Lists.{mem}
use Rattle.doc_axes.specs.NodeTests.{passes}
use Rattle.doc_axes.specs.inner.Lending.{lent_nodes}
use Rattle.doc_axes.proofs.Lending.{count_lent, mem_behind, mem_lent}
use Rattle.doc_axes.proofs.placed.count_behind.Goals as goal

pub count_passing-requires-clause-live : goal.count_passing-requires-clause-live
count_passing-requires-clause-live c = λ m there.
    c.requires.live m
    (mem_behind m c.args.next (lent_nodes c.args.lent)
    (subst (λ l. mem m l ≡ true) c.behind-rest.ensures (sym (mem_lent m c.behind-rest.result.nodes.now c.behind-rest.result.from_end) ∙ there)))

pub returns : goal.returns
returns c =
    let p = passes c.args.tree.now.nodes c.args.axis c.args.test.now in
    c.count_passing.ensures.counted
    ∙ (count_lent p c.behind-rest.result.nodes.now c.behind-rest.result.from_end ∙ ap (λ l. length (filter p l)) c.behind-rest.ensures)
