-- The node, its attributes, and its kids in turn.
use Rattle.std.proofs.Common.{◌+◌, suc, length, sym, ◌∙◌, ap, arith}
use Rattle.std.specs.List.{flat_map}
use Rattle.std.proofs.lemmas.List.{take_all}
use Rattle.doc_tree.specs.Table.{attrs_of, kids_of}
use Rattle.doc_tree.specs.Walks.{below}
use Rattle.doc_write.proofs.PartLemmas.{kid_below}
use Rattle.undo_entries.proofs.TreeLemmas.{below-bound, below-count, kid-bound}
use Rattle.undo_entries.proofs.places.+count_below.Goals as goal

pub count_below-count-requires : goal.count_below-count-requires
count_below-count-requires t c =
    let kid = kid_below c.args.tree.now.nodes c.laws.ensures.well_formed c.laws.ensures.ways_up c.args.n c.loop-kid.kid-index c.kid-item.result
    c.kids-kid-items.result.now c.kids-kid-items.ensures c.kid-item.is c.loop-kid-test.true in
    (omega (arith, c.decreases, kid.0, c.laws.ensures.ways_up.ancestors_bound c.kid-item.result), kid.1)

pub overflow_add-count-in-loop-kid : goal.overflow_add-count-in-loop-kid
overflow_add-count-in-loop-kid t c =
    omega (
      arith,
      c.loop-kid.invariant,
      c.count_below-count.ensures.count,
      kid-bound c.args.tree.now.nodes c.args.n c.loop-kid.kid-index c.kid-item.result (rw c.kids-kid-items.ensures at c.kid-item.is) (rw c.kids-kid-items.ensures at c.loop-kid-test.true),
      below-count c.args.tree.now.nodes c.laws.ensures.well_formed c.args.n,
      below-bound c.args.tree.now.nodes c.laws.ensures.well_formed c.args.n c.requires,
    )

pub returns-clause-count : goal.returns-clause-count
returns-clause-count t c =
    c.loop-kid.invariant
    ∙ (ap (λ ms. suc (length (attrs_of c.args.tree.now.nodes c.args.n)) + length (flat_map (below c.args.tree.now.nodes) ms))
    (take_all c.loop-kid.kid-index (kids_of c.args.tree.now.nodes c.args.n) (rw c.kids-kid-items.ensures at c.loop-kid-test.false))
    ∙ sym (below-count c.args.tree.now.nodes c.laws.ensures.well_formed c.args.n))
