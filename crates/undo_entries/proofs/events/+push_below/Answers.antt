-- A node, its kids in turn, and its end.
use Rattle.std.proofs.Common.{Result, Ok, Err, OnOk, arith}
use Rattle.doc_write.proofs.PartLemmas.{kid_below}
use Rattle.undo_entries.proofs.EventLemmas.{told-node}
use Rattle.undo_entries.proofs.events.+push_below.Goals as goal

pub push_below-requires : goal.push_below-requires
push_below-requires t c =
    let kid = kid_below c.args.tree.now.nodes c.laws.ensures.well_formed c.laws.ensures.ways_up c.args.n c.loop-kid.kid-index c.kid-item.result
    c.kids-kid-items.result.now c.kids-kid-items.ensures c.kid-item.is c.loop-kid-test.true in
    (omega (arith, c.decreases, kid.0, c.laws.ensures.ways_up.ancestors_bound c.kid-item.result), kid.1)

on-ok : {E : Type 0} {P Q : Type 0} (r : Result (Unit {0}) E) → (P → Q) → OnOk r P → OnOk r Q
on-ok (Ok done) f p = f p
on-ok (Err error) f p = p

pub returns : goal.returns
returns t c =
    on-ok c.push_end.result
    (λ ended. told-node c.args.tree.now.nodes c.laws.ensures.well_formed c.args.n c.loop-kid.kid-index c.args.events.now c.push_begin.new.events c.loop-kid.events c.push_end.new.events
    (rw c.kids-kid-items.ensures at c.loop-kid-test.false) (rw c.kids-kid-items.ensures at c.loop-kid.auto.kid-index-end)
    c.in_ok-push_begin.ensures (rw c.kids-kid-items.ensures at c.loop-kid.invariant) ended)
    c.push_end.ensures
