-- One let more was come to, or it is cut short.
use Rattle.std.proofs.Common.{◌<◌, length, arith}
use Rattle.kept_units.proofs.EvaluatingLemmas.{on_err}
use Rattle.kept_units.proofs.LetLemmas.{let_cut, let_on, lets_begin}
use Rattle.kept_units.proofs.kept_units.KeptUnits.run_lets.Goals as goal

pub loop-l-init : goal.loop-l-init
loop-l-init g c =
    let plan = c.args.run.now.plan.now in
    let T = c.args.run.now.caller.tree.now.nodes in
    lets_begin c.lets_need_those_before.ensures c.same_outcomes_are_equal.ensures c.lets_stand_in_order.ensures plan T c.requires.sound
    (c.refreshes_keep.ensures plan T c.requires.sound c.laws.ensures.well_formed) c.args.self.now c.args.changed.now.items c.args.steps.now
    c.requires.keeps c.requires.count c.requires.unset

pub loop-l-preserved : goal.loop-l-preserved
loop-l-preserved g c =
    let plan = c.args.run.now.plan.now in
    let T = c.args.run.now.caller.tree.now.nodes in
    let within : c.loop-l.l < length c.args.run.now.plan.now.lets = omega arith in
    let place : c.loop-l.l < length c.loop-l.self.let_reads.entries = omega (arith, within, c.loop-l.invariant.so.places, c.requires.places.lets) in
    let_on c.lets_need_those_before.ensures c.same_outcomes_are_equal.ensures c.lets_stand_in_order.ensures plan T c.requires.sound
    (c.refreshes_keep.ensures plan T c.requires.sound c.laws.ensures.well_formed) c.loop-l.l c.args.self.now c.loop-l.self c.refresh_let.new.self
    c.loop-l.changed.items c.refresh_let.new.changed.items
    c.args.steps.now c.loop-l.steps c.refresh_let.new.steps within place c.loop-l.invariant c.in_ok-refresh_let.ensures.refreshes

pub refresh_let-requires-clause-place : goal.refresh_let-requires-clause-place
refresh_let-requires-clause-place g c = omega (arith, c.loop-l.invariant.so.places, c.requires.places.lets)

pub refresh_let-requires-clause-flag : goal.refresh_let-requires-clause-flag
refresh_let-requires-clause-flag g c = omega (arith, c.loop-l.invariant.so.flag_count)

pub returns-in_err-refresh_let-clause-cut : goal.returns-in_err-refresh_let-clause-cut
returns-in_err-refresh_let-clause-cut g c =
    let plan = c.args.run.now.plan.now in
    let T = c.args.run.now.caller.tree.now.nodes in
    let within : c.loop-l.l < length c.args.run.now.plan.now.lets = omega arith in
    let place : c.loop-l.l < length c.loop-l.self.let_reads.entries = omega (arith, within, c.loop-l.invariant.so.places, c.requires.places.lets) in
    on_err c.from_residual.result _
    (let_cut c.lets_need_those_before.ensures c.same_outcomes_are_equal.ensures c.lets_stand_in_order.ensures plan T c.requires.sound
    (c.refreshes_keep.ensures plan T c.requires.sound c.laws.ensures.well_formed) c.loop-l.l c.args.self.now c.loop-l.self c.refresh_let.new.self
    c.loop-l.changed.items c.refresh_let.new.changed.items
    c.args.steps.now c.loop-l.steps c.refresh_let.new.steps within place c.loop-l.invariant c.in_err-refresh_let.ensures.stops)
