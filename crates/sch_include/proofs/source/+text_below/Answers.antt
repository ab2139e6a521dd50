-- The node and its attributes, and its kids in turn.
use Rattle.std.proofs.Common.{◌+◌, length, sum_by, sym, ◌∙◌, ap, arith}
use Rattle.std.specs.List.{flat_map}
use Rattle.doc_tree.specs.Table.{kids_of, value_of}
use Rattle.doc_tree.specs.Walks.{below}
use Rattle.sch_include.specs.inner.Growing.{own_text}
use Rattle.sch_include.proofs.CopyLemmas.{all-taken}
use Rattle.sch_include.proofs.WalkLemmas.{kid-depth, kid-lives, kid-text-bound, text-bound, text-count}
use Rattle.sch_include.proofs.source.+text_below.Goals as goal

pub text_below-bytes-requires : goal.text_below-bytes-requires
text_below-bytes-requires t c = (
  omega (arith, c.decreases, kid-depth c.args.tree.now.nodes c.args.n c.loop-kid.kid-index c.kid-item.result (rw c.kids-kid-items.ensures at c.kid-item.is) (rw c.kids-kid-items.ensures at c.loop-kid-test.true) c.laws.ensures.ways_up c.laws.ensures.well_formed, c.laws.ensures.ways_up.ancestors_bound c.kid-item.result),
  kid-lives c.args.tree.now.nodes c.args.n c.loop-kid.kid-index c.kid-item.result (rw c.kids-kid-items.ensures at c.kid-item.is) (rw c.kids-kid-items.ensures at c.loop-kid-test.true) c.laws.ensures.ways_up,
)

pub overflow_add-bytes : goal.overflow_add-bytes
overflow_add-bytes t c =
    omega (
      arith,
      c.loop-kid.invariant,
      c.text_below-bytes.ensures,
      kid-text-bound c.args.tree.now.nodes c.args.n c.loop-kid.kid-index c.kid-item.result (rw c.kids-kid-items.ensures at c.kid-item.is) (rw c.kids-kid-items.ensures at c.loop-kid-test.true),
      text-count c.args.tree.now.nodes c.laws.ensures.ordered c.args.n,
      text-bound c.args.tree.now.nodes c.laws.ensures.ordered c.args.n c.laws.ensures.well_formed c.requires,
    )

pub returns : goal.returns
returns t c =
    c.loop-kid.invariant
    ∙ (ap (λ ms. own_text c.args.tree.now.nodes c.args.n + sum_by (λ m. length (value_of c.args.tree.now.nodes m)) (flat_map (below c.args.tree.now.nodes) ms)) (all-taken (kids_of c.args.tree.now.nodes c.args.n) c.loop-kid.kid-index (rw c.kids-kid-items.ensures at c.loop-kid-test.false) (rw c.kids-kid-items.ensures at c.loop-kid.auto.kid-index-end))
    ∙ sym (text-count c.args.tree.now.nodes c.laws.ensures.ordered c.args.n))
