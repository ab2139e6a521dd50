-- A node, its attributes, its kids in turn, and its end; a part that was not written whole leaves a front of all.
use Rattle.std.proofs.Common.{arith}
use Rattle.doc_write.specs.inner.Parts.{text_below}
use Rattle.doc_write.proofs.PartLemmas.{below_end, below_head, below_kid, kid_below}
use Rattle.sch_io.proofs.Writes.{wrote_next}
use Rattle.doc_write.proofs.tree.+write_below.Goals as goal

pub returns-in_err-write_head : goal.returns-in_err-write_head
returns-in_err-write_head g t c =
    below_head c.args.tree.now.nodes c.laws.ensures.walks c.args.n c.from_residual.result c.from_residual.ensures.0 c.in_err-write_head.ensures

pub write_below-requires : goal.write_below-requires
write_below-requires g t c lifetimes outlived =
    let kid = kid_below c.args.tree.now.nodes c.laws.ensures.well_formed c.laws.ensures.ways_up c.args.n c.loop-kid.kid-index c.kid-item.result
    c.kids-kid-items.result.now c.kids-kid-items.ensures c.kid-item.is c.loop-kid-test.true in
    (omega (arith, c.decreases, kid.0, c.laws.ensures.ways_up.ancestors_bound c.kid-item.result), (outlived, kid.1))

pub returns-in_err-write_below : goal.returns-in_err-write_below
returns-in_err-write_below g t c =
    below_kid c.args.tree.now.nodes c.laws.ensures.walks c.args.n c.loop-kid.kid-index c.kid-item.result
    c.from_residual-in_err-write_below.result c.from_residual-in_err-write_below.ensures.0
    (rw c.kids-kid-items.ensures at c.kid-item.is) (rw c.kids-kid-items.ensures at c.loop-kid-test.true)
    c.in_ok-write_head.ensures (rw c.kids-kid-items.ensures at c.loop-kid.invariant) c.in_err-write_below.ensures

pub loop-kid-preserved : goal.loop-kid-preserved
loop-kid-preserved g t c =
    wrote_next (text_below c.args.tree.now.nodes) c.kids-kid-items.result.now c.loop-kid.kid-index c.kid-item.result c.kid-item.is c.loop-kid-test.true
    c.loop-kid.invariant c.in_ok-write_below.ensures

pub returns : goal.returns
returns g t c =
    below_end c.args.tree.now.nodes c.laws.ensures.walks c.args.n c.loop-kid.kid-index
    (rw c.kids-kid-items.ensures at c.loop-kid-test.false) (rw c.kids-kid-items.ensures at c.loop-kid.auto.kid-index-end)
    c.in_ok-write_head.ensures (rw c.kids-kid-items.ensures at c.loop-kid.invariant) c.write_closing.ensures
