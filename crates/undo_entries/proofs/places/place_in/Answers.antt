-- The number stands at this place, or behind it, or nowhere.
use Rattle.std.proofs.Common.{sym, ◌∙◌}
use Rattle.undo_entries.proofs.PlaceLemmas.{place-here, place-on}
use Rattle.undo_entries.proofs.places.place_in.Goals as goal

pub returns-then-eq-clause-place : goal.returns-then-eq-clause-place
returns-then-eq-clause-place c =
    place-here c.args.n c.args.ns.now c.loop-i.i c.index-ns-i.result c.loop-i-test.true c.index-ns-i.is c.loop-i.invariant (sym c.eq.ensures ∙ c.if-eq.true)

pub loop-i-preserved : goal.loop-i-preserved
loop-i-preserved c =
    place-on c.args.n c.args.ns.now c.loop-i.i c.index-ns-i.result c.loop-i-test.true c.index-ns-i.is c.loop-i.invariant (sym c.eq.ensures ∙ c.if-eq.false)
