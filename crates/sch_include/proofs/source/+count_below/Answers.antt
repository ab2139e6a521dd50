-- The node, its attributes, and its kids in turn.
use Rattle.std.proofs.Common.{◌+◌, suc, length, sym, ◌∙◌, ap, arith}
use Rattle.std.specs.List.{flat_map}
use Rattle.doc_tree.specs.Table.{attrs_of, kids_of}
use Rattle.doc_tree.specs.Walks.{below}
use Rattle.sch_include.proofs.CopyLemmas.{all-taken}
use Rattle.sch_include.proofs.WalkLemmas.{below-bound, below-count, kid-bound, kid-depth, kid-lives}
use Rattle.sch_include.proofs.source.+count_below.Goals as goal

pub count_below-count-requires : goal.count_below-count-requires
count_below-count-requires t c = (
  omega (arith, c.decreases, kid-depth c.args.tree.now.nodes c.args.n c.loop-kid.kid-index c.kid-item.result (rw c.kids-kid-items.ensures at c.kid-item.is) (rw c.kids-kid-items.ensures at c.loop-kid-test.true) c.laws.ensures.ways_up c.laws.ensures.well_formed, c.laws.ensures.ways_up.ancestors_bound c.kid-item.result),
  kid-lives c.args.tree.now.nodes c.args.n c.loop-kid.kid-index c.kid-item.result (rw c.kids-kid-items.ensures at c.kid-item.is) (rw c.kids-kid-items.ensures at c.loop-kid-test.true) c.laws.ensures.ways_up,
)

pub overflow_add-count-in-loop-kid : goal.overflow_add-count-in-loop-kid
overflow_add-count-in-loop-kid t c =
    omega (
      arith,
      c.loop-kid.invariant,
      c.count_below-count.ensures,
      kid-bound c.args.tree.now.nodes c.args.n c.loop-kid.kid-index c.kid-item.result (rw c.kids-kid-items.ensures at c.kid-item.is) (rw c.kids-kid-items.ensures at c.loop-kid-test.true),
      below-count c.args.tree.now.nodes c.laws.ensures.ordered c.args.n,
      below-bound c.args.tree.now.nodes c.laws.ensures.ordered c.args.n c.laws.ensures.well_formed c.requires,
    )

pub returns : goal.returns
returns t c =
    c.loop-kid.invariant
    ∙ (ap (λ ms. suc (length (attrs_of c.args.tree.now.nodes c.args.n)) + length (flat_map (below c.args.tree.now.nodes) ms)) (all-taken (kids_of c.args.tree.now.nodes c.args.n) c.loop-kid.kid-index (rw c.kids-kid-items.ensures at c.loop-kid-test.false) (rw c.kids-kid-items.ensures at c.loop-kid.auto.kid-index-end))
    ∙ sym (below-count c.args.tree.now.nodes c.laws.ensures.ordered c.args.n))
