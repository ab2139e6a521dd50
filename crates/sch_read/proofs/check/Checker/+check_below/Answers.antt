-- The place itself, its attributes, and its kids in turn; in an element of another namespace nothing counts.
use Rattle.std.proofs.Common.{sym, ◌∙◌, arith}
use Rattle.sch_source.proofs.ListLemmas.{all_taken, mem-at}
use Rattle.sch_source.proofs.PlaceLemmas.{stands_below}
use Rattle.sch_read.proofs.KidLemmas.{kid-next, kid-stop}
use Rattle.sch_read.proofs.PlaceLemmas.{below-foreign, below-kids}
use Rattle.sch_read.proofs.ToldLemmas.{told-exit}
use Rattle.sch_read.proofs.check.Checker.+check_below.Goals as goal

pub returns-then-is_foreign : goal.returns-then-is_foreign
returns-then-is_foreign t c =
    below-foreign c.args.self.now.source.tree.now.nodes c.laws.ensures.ordered c.laws.ensures.nested c.args.taken.now c.judge.new.taken c.args.n c.requires.lives
    (sym c.is_foreign.ensures ∙ c.if-is_foreign.true) c.in_ok-judge.ensures

pub check_below-requires : goal.check_below-requires
check_below-requires t c =
    let kid = stands_below c.args.self.now.source.tree.now.nodes c.laws.ensures.well_formed c.laws.ensures.ways_up c.args.n c.kid-item.result
    (rw c.kids-kid-items.ensures at (mem-at c.kids-kid-items.result.now c.loop-kid.kid-index c.kid-item.result c.kid-item.is c.loop-kid-test.true)) in (
      omega (arith, c.decreases, kid.depth, c.laws.ensures.ways_up.ancestors_bound c.kid-item.result),
      (kid.lives, kid.counts c.requires.counts (sym c.is_foreign.ensures ∙ c.if-is_foreign.false)),
    )

pub returns-in_err-check_below : goal.returns-in_err-check_below
returns-in_err-check_below t c =
    told-exit c.in_err-check_below.field-0.0 c.from_residual-in_err-check_below.result c.from_residual-in_err-check_below.ensures.1
    (below-kids c.args.self.now.source.tree.now.nodes c.laws.ensures.ordered c.laws.ensures.nested c.laws.ensures.well_formed c.args.taken.now c.judge.new.taken c.check_below.new.taken c.args.n _
    c.in_ok-judge.ensures (rw c.kids-kid-items.ensures at (
    kid-stop c.args.self.now.source.tree.now.nodes c.judge.new.taken c.loop-kid.taken c.check_below.new.taken c.kids-kid-items.result.now c.loop-kid.kid-index c.kid-item.result c.in_err-check_below.field-0.0
    c.kid-item.is c.loop-kid-test.true c.loop-kid.invariant c.in_err-check_below.ensures))).refuses

pub loop-kid-preserved : goal.loop-kid-preserved
loop-kid-preserved t c =
    kid-next c.args.self.now.source.tree.now.nodes c.judge.new.taken c.loop-kid.taken c.check_below.new.taken c.kids-kid-items.result.now c.loop-kid.kid-index c.kid-item.result
    c.kid-item.is c.loop-kid-test.true c.loop-kid.invariant c.in_ok-check_below.ensures

pub returns : goal.returns
returns t c =
    below-kids c.args.self.now.source.tree.now.nodes c.laws.ensures.ordered c.laws.ensures.nested c.laws.ensures.well_formed c.args.taken.now c.judge.new.taken c.loop-kid.taken c.args.n _
    c.in_ok-judge.ensures (rw c.kids-kid-items.ensures at (rw (all_taken c.kids-kid-items.result.now c.loop-kid.kid-index c.loop-kid-test.false c.loop-kid.auto.kid-index-end) at c.loop-kid.invariant))
