-- What was copied, and what is pending, is what the items stand for.
use Rattle.std.proofs.Common.{◌≡◌, ◌++◌, map}
use Rattle.std.specs.List.{flat_map}
use Rattle.sch_expansion.specs.Flat.{assertion_in, assertion_with, let_in, let_with}
use Rattle.sch_expansion.specs.inner.Copies.{change_of}
use Rattle.sch_expansion.specs.inner.Walks.{expanded, pending_items, pending_visits}
use Rattle.sch_expansion.proofs.expansion.Expansion.push_all.Given as goal

abbrev pub invariant-loop-stretch : goal.invariant-loop-stretch
invariant-loop-stretch l =
    (l.parts.lets ++ map (let_with (change_of l.copier)) (flat_map let_in (pending_items l.self (map (λ items. items.now) l.pending.items)))
    ≡ l.fn.parts.lets ++ map (let_with (change_of l.copier)) (flat_map let_in (expanded l.self l.items)))
    × (l.parts.assertions ++ map (assertion_with (change_of l.copier)) (flat_map assertion_in (pending_items l.self (map (λ items. items.now) l.pending.items)))
    ≡ l.fn.parts.assertions ++ map (assertion_with (change_of l.copier)) (flat_map assertion_in (expanded l.self l.items)))

abbrev pub decreases-loop-stretch : goal.decreases-loop-stretch
decreases-loop-stretch l = pending_visits l.self (map (λ items. items.now) l.pending.items)
