-- One node more was evaluated, or it was cut short.
use Rattle.std.proofs.Common.{ℕ, ◌<◌, ◌≡◌, length, subst, sym, arith}
use Rattle.xp_meaning.specs.Evaluation.{Lets}
use Rattle.rule_run.specs.KeptMatches.{AreKeptFor}
use Rattle.kept_units.specs.inner.Refreshing.{NodesRefreshed}
use Rattle.kept_units.proofs.EvaluatingLemmas.{on_err}
use Rattle.kept_units.proofs.PairLemmas.{goes_on, node_cut, nodes_begin, ready_alone}
use Rattle.kept_units.proofs.SeenLemmas.{place_within}
use Rattle.kept_units.proofs.kept_units.KeptUnits.refresh_nodes.Goals as goal

pub loop-number-init : goal.loop-number-init
loop-number-init g c =
    let plan = c.args.at.now.run.plan.now in
    let T = c.args.at.now.run.caller.tree.now.nodes in
    record {
      matches = c.requires.matches;
      so_far = nodes_begin plan T c.args.at.now.pattern c.args.self.now c.args.steps.now;
      within = omega arith;
    }

pub go_on-requires-clause-ready : goal.go_on-requires-clause-ready
go_on-requires-clause-ready g c =
    let alone = c.loop-number.invariant.so_far.alone in
    let pairs =
    ready_alone c.args.at.now.run.plan.now c.args.at.now.run.caller.tree.now.nodes c.args.self.now c.loop-number.self alone c.requires.pairs in
    record {
      counted = c.requires.ready.counted;
      active = c.requires.ready.active;
      few = pairs.few;
      patterns = pairs.held.patterns;
      places = omega (arith, alone.places, c.requires.ready.places);
    }

pub loop-number-preserved : goal.loop-number-preserved
loop-number-preserved g c =
    let plan = c.args.at.now.run.plan.now in
    let T = c.args.at.now.run.caller.tree.now.nodes in
    let p = c.args.at.now.pattern in
    let made : c.loop-number.number < length c.args.at.now.run.caller.tree.now.nodes =
    omega (arith, c.loop-number-test.true, c.numbers_made-numbers.ensures) in
    let alone = c.loop-number.invariant.so_far.alone in
    record {
      matches = subst (λ (L : Lets). AreKeptFor plan c.args.at.now.run.caller.tree.now p L c.go_on.new.matches) (sym c.in_ok-next.ensures.alone.lets) c.in_ok-next.ensures.matches;
      so_far =
          goes_on plan T (c.refreshes_keep.ensures plan T c.requires.sound c.laws.ensures.well_formed).pairs p c.requires.ready.active
          c.rules_are_typed.ensures
          c.loop-number.number c.in_ok-next.next c.args.self.now c.loop-number.self c.go_on.new.self c.args.steps.now c.loop-number.steps
          c.go_on.new.steps
          (place_within plan p c.loop-number.number (length T) (length c.loop-number.self.reads.entries) c.requires.ready.active made
          (omega (arith, alone.places, c.requires.ready.places)))
          (ready_alone plan T c.args.self.now c.loop-number.self alone c.requires.pairs) c.in_ok-next.ensures.alone c.loop-number.invariant.so_far
          c.in_ok-next.ensures.goes;
      within = c.in_ok-next.ensures.at_most;
    }

pub returns-in_err-next-clause-cut : goal.returns-in_err-next-clause-cut
returns-in_err-next-clause-cut g c =
    let plan = c.args.at.now.run.plan.now in
    let T = c.args.at.now.run.caller.tree.now.nodes in
    on_err c.from_residual.result _
    (node_cut plan T (c.refreshes_keep.ensures plan T c.requires.sound c.laws.ensures.well_formed).pairs c.args.at.now.pattern c.requires.ready.active
    c.rules_are_typed.ensures
    c.loop-number.number c.args.self.now c.loop-number.self c.go_on.new.self c.args.steps.now c.loop-number.steps c.go_on.new.steps
    (ready_alone plan T c.args.self.now c.loop-number.self c.loop-number.invariant.so_far.alone c.requires.pairs) c.in_err-next.ensures.alone
    c.loop-number.invariant.so_far c.in_err-next.ensures.stops)

pub returns-clause-refreshed : goal.returns-clause-refreshed
returns-clause-refreshed g c =
    let all : c.loop-number.number ≡ length c.args.at.now.run.caller.tree.now.nodes =
    omega (arith, c.loop-number.invariant.within, c.numbers_made-numbers.ensures, c.loop-number-test.false) in
    subst (λ (k : ℕ). NodesRefreshed c.args.at.now.run.plan.now c.args.at.now.run.caller.tree.now.nodes c.args.at.now.pattern k c.args.self.now
    c.loop-number.self c.args.steps.now c.loop-number.steps)
    all c.loop-number.invariant.so_far
