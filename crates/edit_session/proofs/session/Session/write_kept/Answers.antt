-- By what is kept.
use Rattle.std.proofs.Common.{subst, sym}
use Rattle.kept_units.specs.Running.{IsFresh}
use Rattle.kept_units.specs.Outcomes.{Holds, LetsHold}
use Rattle.edit_session.specs.Standing.{Standing, seen_by}
use Rattle.edit_session.specs.Wrote.{WroteState}
use Rattle.edit_session.proofs.KeptLemmas.{holds-fresh, lets-fresh}
use Rattle.edit_session.proofs.session.Session.write_kept.Goals as goal

pub write_outcomes-requires-clause-lets : goal.write_outcomes-requires-clause-lets
write_outcomes-requires-clause-lets g c =
    let session = c.self.inside in
    let fresh = subst (λ (s : Standing). IsFresh s.plan s.tree.nodes (seen_by s)) (sym c.self.view_is) c.requires in
    subst (LetsHold session.plan session.tree.nodes) (sym c.lets-lets.ensures) (lets-fresh session.plan session.tree.nodes session.kept fresh)

pub write_outcomes-requires-clause-found : goal.write_outcomes-requires-clause-found
write_outcomes-requires-clause-found g c =
    let session = c.self.inside in
    let fresh = subst (λ (s : Standing). IsFresh s.plan s.tree.nodes (seen_by s)) (sym c.self.view_is) c.requires in
    subst (Holds session.plan session.tree.nodes) (sym c.found-found.ensures)
    (holds-fresh session.plan session.tree.nodes session.kept c.laws.ensures.ordered c.self.invariant.held.patterns fresh)

pub returns : goal.returns
returns g c =
    subst (λ (s : Standing). WroteState (g.O.Sink.log c.args.sink.now) (g.O.Sink.log c.write_outcomes.new.out) s.plan s.tree.nodes c.write_outcomes.result) c.self.view_is
    c.write_outcomes.ensures
