-- One rule more, up to all.
use Rattle.std.proofs.Common.{arith, ◌∙◌, ap}
use Rattle.std.proofs.lemmas.List.{take_all}
use Rattle.sch_sizes.specs.inner.Sums.{items_found, looked}
use Rattle.sch_sizes.specs.inner.Tables.{stands_amounts}
use Rattle.sch_sizes.proofs.ExtendsLemmas.{next_amounts}
use Rattle.sch_sizes.proofs.table.amounts_of.Goals as goal

pub loop-place-preserved : goal.loop-place-preserved
loop-place-preserved g c = λ all order replacing.
    let weights = g.S.Scale.weights c.args.scale.now in
    let ordered = c.args.rules.now in
    let rule = c.rule-rule.result.now in
    let found = c.of_items-amount.ensures
    ∙ ap (λ amounts. items_found weights (looked amounts ordered) c.as_slice-in-loop-place.result.now) c.as_slice.ensures.value
    ∙ ap (items_found weights (looked c.loop-place.amounts.items ordered)) c.as_slice-in-loop-place.ensures in
    next_amounts weights all ordered order replacing c.loop-place.place rule c.loop-place.amounts.items _ c.of_items-amount.result
    c.rule-rule.ensures (c.loop-place.invariant all order replacing) found c.in_ok-push.ensures.items

pub returns : goal.returns
returns g c = λ all order replacing.
    c.loop-place.invariant all order replacing
    ∙ ap (stands_amounts (g.S.Scale.weights c.args.scale.now) all) (take_all c.loop-place.place c.args.rules.now (omega arith))
