-- First the lets are those of the tree, and then the nodes under patterns; wherever it stops, what is kept is the state.
use Rattle.std.proofs.Common.{arith}
use Rattle.std.proofs.lemmas.Result.{on_ok_weaker}
use Rattle.kept_units.proofs.EvaluatingLemmas.{either_ok}
use Rattle.kept_units.proofs.KeepLemmas.{pairs_ready, units_all, units_cut, units_cut_lets, units_done}
use Rattle.kept_units.proofs.kept_units.KeptUnits.refresh_units.Goals as goal

pub refresh_patterns-requires-clause-ready : goal.refresh_patterns-requires-clause-ready
refresh_patterns-requires-clause-ready g c =
    pairs_ready c.args.run.now.plan.now c.args.run.now.caller.tree.now.nodes c.args.self.now c.refresh_lets.new.self c.refresh_lets.new.self
    c.args.steps.now c.refresh_lets.new.steps c.refresh_lets.new.steps
    c.in_ok-refresh_lets.ensures.go c.in_ok-refresh_lets.ensures.done

pub refresh_patterns-requires-clause-places : goal.refresh_patterns-requires-clause-places
refresh_patterns-requires-clause-places g c = omega (arith, c.in_ok-refresh_lets.ensures.done.places, c.requires.places.pairs)

pub returns-in_err-refresh_lets-clause-go : goal.returns-in_err-refresh_lets-clause-go
returns-in_err-refresh_lets-clause-go g c =
    units_cut_lets c.args.run.now.plan.now c.args.run.now.caller.tree.now.nodes c.args.self.now c.refresh_lets.new.self c.args.steps.now
    c.refresh_lets.new.steps c.in_err-refresh_lets.ensures.go

pub returns-clause-go : goal.returns-clause-go
returns-clause-go g c =
    let plan = c.args.run.now.plan.now in
    let T = c.args.run.now.caller.tree.now.nodes in
    either_ok c.refresh_patterns.result
    (units_all plan T c.args.self.now c.refresh_lets.new.self c.refresh_patterns.new.self c.args.steps.now c.refresh_lets.new.steps
    c.refresh_patterns.new.steps
    c.in_ok-refresh_lets.ensures.go c.in_ok-refresh_lets.ensures.done (c.refreshes_keep.ensures plan T c.requires.sound c.laws.ensures.well_formed))
    (units_cut plan T c.args.self.now c.refresh_lets.new.self c.refresh_patterns.new.self c.args.steps.now c.refresh_lets.new.steps
    c.refresh_patterns.new.steps
    c.in_ok-refresh_lets.ensures.go c.in_ok-refresh_lets.ensures.done)
    c.refresh_patterns.ensures.refreshed c.refresh_patterns.ensures.cut

pub returns-clause-done : goal.returns-clause-done
returns-clause-done g c =
    let plan = c.args.run.now.plan.now in
    let T = c.args.run.now.caller.tree.now.nodes in
    on_ok_weaker c.refresh_patterns.result
    (units_done plan T c.args.self.now c.refresh_lets.new.self c.refresh_patterns.new.self c.args.steps.now c.refresh_lets.new.steps
    c.refresh_patterns.new.steps
    c.in_ok-refresh_lets.ensures.go c.in_ok-refresh_lets.ensures.done (c.refreshes_keep.ensures plan T c.requires.sound c.laws.ensures.well_formed))
    c.refresh_patterns.ensures.refreshed
