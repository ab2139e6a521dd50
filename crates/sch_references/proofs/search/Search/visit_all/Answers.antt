-- One rule more was entered, up to all.
use Rattle.std.proofs.Common.{arith}
use Rattle.sch_references.proofs.SortLemmas.{sort-end, sort-next}
use Rattle.sch_references.proofs.search.Search.visit_all.Goals as goal

pub loop-place-init : goal.loop-place-init
loop-place-init c = record { idle = c.requires; entered = tt }

pub visit_rule-requires : goal.visit_rule-requires
visit_rule-requires c = c.loop-place.invariant.idle

pub loop-place-preserved : goal.loop-place-preserved
loop-place-preserved c =
    let r = sort-next c.args.rules.now c.loop-place.self c.visit_rule.new.self c.loop-place.place c.rule.result.now c.in_ok-visit_rule.field-0 c.loop-place.invariant.entered
    (omega (arith, c.loop-place-test.true, c.len-place-end.ensures)) c.rule.ensures c.in_ok-visit_rule.ensures.visited c.if-not-branch.false c.in_ok-visit_rule.ensures.kept in
    record { idle = r.0; entered = r.1 }

pub returns : goal.returns
returns c =
    sort-end c.args.rules.now c.loop-place.self c.loop-place.place c.loop-place.invariant.idle c.loop-place.invariant.entered
    (omega (arith, c.loop-place-test.false, c.len-place-end.ensures)) (omega (arith, c.loop-place.auto.place-end, c.len-place-end.ensures))
