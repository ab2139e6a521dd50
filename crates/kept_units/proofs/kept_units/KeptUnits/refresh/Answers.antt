-- Places are made, the units are refreshed, and then no node is stale.
use Rattle.kept_units.proofs.KeepLemmas.{fresh_passed, goes_from, goes_passed, goes_reached, held_passed, held_reached, keeps_reached, raised_from, spent_from}
use Rattle.kept_units.proofs.kept_units.KeptUnits.refresh.Goals as goal

pub refresh_units-requires-clause-held : goal.refresh_units-requires-clause-held
refresh_units-requires-clause-held g c =
    held_reached c.args.plan.now c.args.tree.now.nodes c.args.self.now c.make_places.new.self c.in_ok-make_places.ensures.reaches c.requires.held

pub refresh_units-requires-clause-keeps : goal.refresh_units-requires-clause-keeps
refresh_units-requires-clause-keeps g c =
    keeps_reached c.args.plan.now c.args.tree.now.nodes c.args.self.now c.make_places.new.self c.in_ok-make_places.ensures.reaches c.requires.keeps

pub returns-in_err-make_places-clause-held : goal.returns-in_err-make_places-clause-held
returns-in_err-make_places-clause-held g c =
    held_reached c.args.plan.now c.args.tree.now.nodes c.args.self.now c.make_places.new.self c.in_err-make_places.ensures.reaches c.requires.held

pub returns-in_err-make_places-clause-goes_on : goal.returns-in_err-make_places-clause-goes_on
returns-in_err-make_places-clause-goes_on g c =
    goes_reached c.args.plan.now c.args.tree.now.nodes c.args.self.now c.make_places.new.self c.in_err-make_places.ensures.reaches c.requires.keeps

pub returns-in_err-refresh_units-clause-goes_on : goal.returns-in_err-refresh_units-clause-goes_on
returns-in_err-refresh_units-clause-goes_on g c =
    goes_from c.args.plan.now c.args.tree.now.nodes c.args.self.now c.make_places.new.self c.refresh_units.new.self c.args.steps.now
    c.refresh_units.new.steps c.in_ok-make_places.ensures.reaches c.in_err-refresh_units.ensures.go.goes_on

pub returns-in_err-refresh_units-clause-at_most : goal.returns-in_err-refresh_units-clause-at_most
returns-in_err-refresh_units-clause-at_most g c =
    (spent_from c.args.plan.now c.args.tree.now.nodes c.args.self.now c.make_places.new.self c.refresh_units.new.self c.args.steps.now
    c.refresh_units.new.steps c.in_ok-make_places.ensures.reaches c.in_err-refresh_units.ensures.go.spent).at_most

pub returns-in_err-refresh_units-clause-held : goal.returns-in_err-refresh_units-clause-held
returns-in_err-refresh_units-clause-held g c = c.in_err-refresh_units.ensures.go.held

pub returns-in_err-refresh_units-clause-steps : goal.returns-in_err-refresh_units-clause-steps
returns-in_err-refresh_units-clause-steps g c = c.in_err-refresh_units.ensures.go.spent.later

pub returns-clause-held : goal.returns-clause-held
returns-clause-held g c =
    held_passed c.args.plan.now c.args.tree.now.nodes c.refresh_units.new.self c.pass_nodes.new.self c.pass_nodes.ensures
    c.in_ok-refresh_units.ensures.done.fresh c.in_ok-refresh_units.ensures.go.held

pub returns-clause-fresh : goal.returns-clause-fresh
returns-clause-fresh g c =
    fresh_passed c.args.plan.now c.args.tree.now.nodes c.refresh_units.new.self c.pass_nodes.new.self c.pass_nodes.ensures
    c.in_ok-refresh_units.ensures.done.fresh

pub returns-clause-raised : goal.returns-clause-raised
returns-clause-raised g c =
    raised_from c.args.plan.now c.args.tree.now.nodes c.args.self.now c.make_places.new.self c.refresh_units.new.self c.args.steps.now
    c.refresh_units.new.steps c.in_ok-make_places.ensures.reaches c.in_ok-refresh_units.ensures.done.raised

pub returns-clause-goes_on : goal.returns-clause-goes_on
returns-clause-goes_on g c =
    goes_passed c.args.plan.now c.args.tree.now.nodes c.args.self.now c.refresh_units.new.self c.pass_nodes.new.self c.pass_nodes.ensures
    (goes_from c.args.plan.now c.args.tree.now.nodes c.args.self.now c.make_places.new.self c.refresh_units.new.self c.args.steps.now
    c.refresh_units.new.steps c.in_ok-make_places.ensures.reaches c.in_ok-refresh_units.ensures.go.goes_on)

pub returns-clause-at_most : goal.returns-clause-at_most
returns-clause-at_most g c =
    (spent_from c.args.plan.now c.args.tree.now.nodes c.args.self.now c.make_places.new.self c.refresh_units.new.self c.args.steps.now
    c.refresh_units.new.steps c.in_ok-make_places.ensures.reaches c.in_ok-refresh_units.ensures.go.spent).at_most

pub returns-clause-steps : goal.returns-clause-steps
returns-clause-steps g c = c.in_ok-refresh_units.ensures.go.spent.later
