-- The document stays, and so does what is kept.
use Rattle.std.proofs.Common.{◌≤◌, ◌+◌, subst, sym}
use Rattle.doc_tree.specs.Table.{Contents}
use Rattle.name_scopes.specs.Scoping.{InScope}
use Rattle.edit_session.specs.Costs.{Raised, cost_of}
use Rattle.edit_session.specs.Running.{GoesOn, IsFresh, to_run}
use Rattle.edit_session.specs.Standing.{seen_by}
use Rattle.edit_session.specs.Wrote.{RoseBy, UnlessMemory, WroteState}
use Rattle.history_laws.specs.Histories.{StandsFor}
use Rattle.sch_undo.specs.Remembered.{Remembered}
use Rattle.sch_undo.proofs.history.History.report.Goals as goal

pub invariant_of-self : goal.invariant_of-self
invariant_of-self g c = record {
  some = c.self.invariant.some;
  few = c.self.invariant.few;
  scoped = subst (λ (tree : Contents). InScope tree.nodes) (sym c.report.ensures.tree) c.self.invariant.scoped;
  names = c.self.invariant.names;
  trees = c.self.invariant.trees;
  stand = subst (λ (tree : Contents). StandsFor tree c.self.inside.entries.items c.self.invariant.trees) (sym c.report.ensures.tree) c.self.invariant.stand;
}

pub returns-clause-wrote : goal.returns-clause-wrote
returns-clause-wrote g c =
    subst (λ (h : Remembered). WroteState (g.O.Sink.log c.args.sink.now) (g.O.Sink.log c.report.new.sink) h.session.plan h.session.tree.nodes c.report.result)
    c.self.view_is c.report.ensures.wrote

pub returns-clause-fresh : goal.returns-clause-fresh
returns-clause-fresh g c =
    subst (λ (h : Remembered). UnlessMemory c.report.result (IsFresh h.session.plan h.session.tree.nodes (seen_by c.report.new.self))) c.self.view_is
    c.report.ensures.fresh

pub returns-clause-raised : goal.returns-clause-raised
returns-clause-raised g c =
    subst (λ (h : Remembered). UnlessMemory c.report.result (Raised h.session.plan h.session.tree.nodes
    (to_run h.session.plan h.session.tree.nodes (seen_by h.session)) c.args.steps.now c.report.new.steps)) c.self.view_is c.report.ensures.raised

pub returns-clause-exactly : goal.returns-clause-exactly
returns-clause-exactly g c =
    subst (λ (h : Remembered). RoseBy (cost_of h.session.plan h.session.tree.nodes (to_run h.session.plan h.session.tree.nodes (seen_by h.session)))
    c.args.steps.now c.report.new.steps c.report.result) c.self.view_is c.report.ensures.exactly

pub returns-clause-goes_on : goal.returns-clause-goes_on
returns-clause-goes_on g c =
    subst (λ (h : Remembered). GoesOn h.session.plan h.session.tree.nodes (seen_by h.session) (seen_by c.report.new.self)) c.self.view_is
    c.report.ensures.goes_on

pub returns-clause-at_most : goal.returns-clause-at_most
returns-clause-at_most g c =
    subst (λ (h : Remembered). c.report.new.steps ≤ c.args.steps.now + cost_of h.session.plan h.session.tree.nodes
    (to_run h.session.plan h.session.tree.nodes (seen_by h.session))) c.self.view_is c.report.ensures.at_most
