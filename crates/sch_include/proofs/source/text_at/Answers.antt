-- There is no more text than a tree may have.
use Rattle.std.proofs.Common.{arith}
use Rattle.sch_include.proofs.WalkLemmas.{own-bound}
use Rattle.sch_include.proofs.source.text_at.Goals as goal

pub overflow_add-bytes : goal.overflow_add-bytes
overflow_add-bytes c =
    omega (
      arith,
      c.loop-attr.invariant,
      c.value.ensures,
      own-bound c.args.tree.now.nodes c.laws.ensures.ordered c.args.n c.laws.ensures.well_formed c.requires c.loop-attr.attr-index c.attr-item.result
          (rw c.attrs-attr-items.ensures at c.attr-item.is) (rw c.attrs-attr-items.ensures at c.loop-attr-test.true) c.value.result.now c.value.ensures,
    )
