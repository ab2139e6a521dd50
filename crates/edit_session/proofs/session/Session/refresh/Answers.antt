-- By what is kept.
use Rattle.std.proofs.Common.{◌≤◌, ◌+◌, OnOk, ap, subst}
use Rattle.kept_units.specs.Costs.{Raised, cost_of}
use Rattle.kept_units.specs.Running.{GoesOn, IsFresh, to_run}
use Rattle.kept_units.specs.Keeping.{seen_in}
use Rattle.edit_session.specs.Standing.{Standing, seen_by}
use Rattle.edit_session.proofs.session.Session.refresh.Goals as goal

pub invariant_of-self : goal.invariant_of-self
invariant_of-self g c = record {
  sound = c.self.invariant.sound;
  typed = c.self.invariant.typed;
  document = c.self.invariant.document;
  cap = c.self.invariant.cap;
  within = c.self.invariant.within;
  held = c.refresh.ensures.held;
  keeps = c.refresh.ensures.goes_on.keeps;
}

pub refresh-requires-clause-sound : goal.refresh-requires-clause-sound
refresh-requires-clause-sound g c = c.self.invariant.sound

pub refresh-requires-clause-held : goal.refresh-requires-clause-held
refresh-requires-clause-held g c = c.self.invariant.held

pub refresh-requires-clause-keeps : goal.refresh-requires-clause-keeps
refresh-requires-clause-keeps g c = c.self.invariant.keeps

pub returns-clause-plan : goal.returns-clause-plan
returns-clause-plan g c = ap (λ (s : Standing). s.plan) c.self.view_is

pub returns-clause-tree : goal.returns-clause-tree
returns-clause-tree g c = ap (λ (s : Standing). s.tree) c.self.view_is

pub returns-clause-steps : goal.returns-clause-steps
returns-clause-steps g c = c.refresh.ensures.steps

pub returns-clause-fresh : goal.returns-clause-fresh
returns-clause-fresh g c =
    subst (λ (s : Standing). OnOk c.refresh.result (IsFresh s.plan s.tree.nodes (seen_in c.refresh.new.self))) c.self.view_is c.refresh.ensures.fresh

pub returns-clause-raised : goal.returns-clause-raised
returns-clause-raised g c =
    subst (λ (s : Standing). OnOk c.refresh.result (Raised s.plan s.tree.nodes (to_run s.plan s.tree.nodes (seen_by s)) c.args.steps.now c.refresh.new.steps)) c.self.view_is c.refresh.ensures.raised

pub returns-clause-goes_on : goal.returns-clause-goes_on
returns-clause-goes_on g c =
    subst (λ (s : Standing). GoesOn s.plan s.tree.nodes (seen_by s) (seen_in c.refresh.new.self)) c.self.view_is c.refresh.ensures.goes_on

pub returns-clause-at_most : goal.returns-clause-at_most
returns-clause-at_most g c =
    subst (λ (s : Standing). c.refresh.new.steps ≤ c.args.steps.now + cost_of s.plan s.tree.nodes (to_run s.plan s.tree.nodes (seen_by s))) c.self.view_is c.refresh.ensures.at_most
