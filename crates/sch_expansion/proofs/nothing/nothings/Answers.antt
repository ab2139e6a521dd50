use Rattle.std.proofs.Common.{◌∷◌, [], length, sym, ap, subst, ◌∙◌, arith, length-append}
use Rattle.sch_references.specs.Order.{extends_only}
use Rattle.sch_expansion.specs.inner.Walks.{Nothings, are_none, expanded, told_rules}
use Rattle.sch_expansion.proofs.WalkLemmas.{no-nothings, nothings-push, rule-known}
use Rattle.sch_expansion.proofs.nothing.nothings.Goals as goal

pub loop-place-init : goal.loop-place-init
loop-place-init c = (
  subst (Nothings c.args.rules.now) (sym c.new-table.ensures.items) (no-nothings c.args.rules.now),
  ap length c.new-table.ensures.items,
)

pub loop-place-preserved : goal.loop-place-preserved
loop-place-preserved c = (
  subst (Nothings c.args.rules.now) (sym c.in_ok-push.ensures.items)
      (nothings-push c.args.rules.now c.loop-place.table.items c.are_nothing-nothing.result c.loop-place.place c.rule.result.now c.loop-place.invariant.0
      c.loop-place.invariant.1 c.rule.ensures
      (c.are_nothing-nothing.ensures ∙ ap (λ items. are_none (expanded c.args.rules.now items)) c.as_slice-in-loop-place.ensures)),
  omega (arith, ap length c.in_ok-push.ensures.items, length-append c.loop-place.table.items (c.are_nothing-nothing.result ∷ []), c.loop-place.invariant.1),
)

pub are_nothing-nothing-requires-clause-known : goal.are_nothing-nothing-requires-clause-known
are_nothing-nothing-requires-clause-known c =
    ap (λ table. extends_only (told_rules c.args.rules.now table) c.as_slice-in-loop-place.result.now) c.as_slice.ensures.value
    ∙ ap (extends_only (told_rules c.args.rules.now c.loop-place.table.items)) c.as_slice-in-loop-place.ensures
    ∙ rule-known c.args.rules.now c.loop-place.table.items c.loop-place.place c.rule.result.now c.requires c.loop-place.invariant.1 c.rule.ensures
