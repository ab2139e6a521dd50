-- What read a let with another outcome is forgotten, whatever stopped the lets.
use Rattle.kept_units.proofs.EndLemmas.{lets_done, lets_go_all, lets_go_cut, lets_go_nowhere}
use Rattle.kept_units.proofs.EvaluatingLemmas.{both_ok, each_way}
use Rattle.kept_units.proofs.kept_units.KeptUnits.refresh_lets.Goals as goal

pub returns-in_err-changed-clause-go : goal.returns-in_err-changed-clause-go
returns-in_err-changed-clause-go g c =
    let plan = c.args.run.now.plan.now in
    let T = c.args.run.now.caller.tree.now.nodes in
    lets_go_nowhere plan T (c.refreshes_keep.ensures plan T c.requires.sound c.laws.ensures.well_formed) c.args.self.now c.args.steps.now
    c.requires.held c.requires.keeps

pub returns-clause-go : goal.returns-clause-go
returns-clause-go g c =
    let plan = c.args.run.now.plan.now in
    let T = c.args.run.now.caller.tree.now.nodes in
    each_way c.run_lets-ended.result
    (lets_go_all c.lets_stand_in_order.ensures plan T (c.refreshes_keep.ensures plan T c.requires.sound c.laws.ensures.well_formed) c.args.self.now
    c.run_lets-ended.new.self c.forget_changed.new.self
    c.run_lets-ended.new.changed.items c.args.steps.now c.run_lets-ended.new.steps c.requires.held)
    (lets_go_cut plan T c.args.self.now c.run_lets-ended.new.self c.forget_changed.new.self c.run_lets-ended.new.changed.items c.args.steps.now
    c.run_lets-ended.new.steps c.requires.held)
    c.run_lets-ended.ensures.refreshed c.run_lets-ended.ensures.cut c.forget_changed.ensures.pairs c.forget_changed.ensures.all

pub returns-clause-done : goal.returns-clause-done
returns-clause-done g c =
    let plan = c.args.run.now.plan.now in
    let T = c.args.run.now.caller.tree.now.nodes in
    both_ok c.run_lets-ended.result
    (lets_done c.lets_stand_in_order.ensures plan T (c.refreshes_keep.ensures plan T c.requires.sound c.laws.ensures.well_formed) c.args.self.now
    c.run_lets-ended.new.self c.forget_changed.new.self
    c.run_lets-ended.new.changed.items c.args.steps.now c.run_lets-ended.new.steps c.requires.held)
    c.run_lets-ended.ensures.refreshed c.forget_changed.ensures.pairs
