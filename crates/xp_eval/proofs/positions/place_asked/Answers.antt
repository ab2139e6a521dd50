-- A whole number, or the size.
use Rattle.std.proofs.Common.{eqb-true, sym, ◌∙◌}
use Rattle.std.proofs.lemmas.List.{nil_from_length}
use Rattle.xp_eval.proofs.Places.{last-asks, number-asks}
use Rattle.xp_eval.proofs.positions.place_asked.Goals as goal

pub returns-in-Some : goal.returns-in-Some
returns-in-Some c = number-asks c.args.predicate.now _ c.in-Some.place c.in-Number.is c.in-Some.ensures

pub returns-then-is_empty : goal.returns-then-is_empty
returns-then-is_empty c =
    last-asks c.args.predicate.now c.in-Call.function c.in-Call.args _ c.in-Call.is c.as_slice.ensures.value (c.is_last.ensures c.if-is_last.true)
    (nil_from_length _ (eqb-true _ 0 (sym c.is_empty.ensures ∙ c.if-is_empty.true)))
