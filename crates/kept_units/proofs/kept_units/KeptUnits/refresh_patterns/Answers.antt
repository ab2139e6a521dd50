-- The nodes under one pattern more were evaluated, or they were cut short.
use Rattle.std.proofs.Common.{◌<◌, length, arith}
use Rattle.kept_units.proofs.EvaluatingLemmas.{on_err}
use Rattle.kept_units.proofs.PairLemmas.{pattern_cut, pattern_on, patterns_begin, ready_alone}
use Rattle.kept_units.proofs.kept_units.KeptUnits.refresh_patterns.Goals as goal

pub loop-p-init : goal.loop-p-init
loop-p-init g c = patterns_begin c.args.run.now.plan.now c.args.run.now.caller.tree.now.nodes c.args.self.now c.args.steps.now

pub refresh_pattern-requires-clause-ready : goal.refresh_pattern-requires-clause-ready
refresh_pattern-requires-clause-ready g c =
    let alone = c.loop-p.invariant.alone in
    let ready = ready_alone c.args.run.now.plan.now c.args.run.now.caller.tree.now.nodes c.args.self.now c.loop-p.self alone c.requires.ready in
    record {
      counted = c.requires.sound.counted;
      active = omega (arith, c.loop-p-test.true, c.pattern_count-p-end.ensures);
      few = ready.few;
      patterns = ready.held.patterns;
      places = omega (arith, alone.places, c.requires.places);
    }

pub refresh_pattern-requires-clause-pairs : goal.refresh_pattern-requires-clause-pairs
refresh_pattern-requires-clause-pairs g c =
    ready_alone c.args.run.now.plan.now c.args.run.now.caller.tree.now.nodes c.args.self.now c.loop-p.self c.loop-p.invariant.alone c.requires.ready

pub loop-p-preserved : goal.loop-p-preserved
loop-p-preserved g c =
    let plan = c.args.run.now.plan.now in
    let T = c.args.run.now.caller.tree.now.nodes in
    pattern_on plan T (c.refreshes_keep.ensures plan T c.requires.sound c.laws.ensures.well_formed).pairs c.loop-p.p c.args.self.now c.loop-p.self
    c.refresh_pattern.new.self
    c.args.steps.now c.loop-p.steps c.refresh_pattern.new.steps c.loop-p.invariant c.in_ok-refresh_pattern.ensures.refreshed

pub returns-in_err-refresh_pattern-clause-cut : goal.returns-in_err-refresh_pattern-clause-cut
returns-in_err-refresh_pattern-clause-cut g c =
    let plan = c.args.run.now.plan.now in
    let T = c.args.run.now.caller.tree.now.nodes in
    let low : c.loop-p.p < length c.args.run.now.plan.now.patterns = omega (arith, c.loop-p-test.true, c.pattern_count-p-end.ensures) in
    on_err c.from_residual.result _
    (pattern_cut plan T c.loop-p.p c.args.self.now c.loop-p.self c.refresh_pattern.new.self c.args.steps.now c.loop-p.steps
    c.refresh_pattern.new.steps low
    c.loop-p.invariant c.in_err-refresh_pattern.ensures.cut)
