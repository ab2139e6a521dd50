-- By what is kept.
use Rattle.std.proofs.Common.{◌≡◌, IfOk, subst, sym}
use Rattle.kept_units.specs.Running.{IsFresh}
use Rattle.kept_units.specs.Outcomes.{Holds, LetsHold}
use Rattle.edit_session.specs.Counts.{counts_of}
use Rattle.edit_session.specs.Standing.{Standing, seen_by}
use Rattle.edit_session.proofs.KeptLemmas.{holds-fresh, lets-fresh}
use Rattle.edit_session.proofs.session.Session.count_kept.Goals as goal

pub count_outcomes-requires-clause-lets : goal.count_outcomes-requires-clause-lets
count_outcomes-requires-clause-lets c =
    let session = c.self.inside in
    let fresh = subst (λ (s : Standing). IsFresh s.plan s.tree.nodes (seen_by s)) (sym c.self.view_is) c.requires in
    subst (LetsHold session.plan session.tree.nodes) (sym c.lets-lets.ensures) (lets-fresh session.plan session.tree.nodes session.kept fresh)

pub count_outcomes-requires-clause-found : goal.count_outcomes-requires-clause-found
count_outcomes-requires-clause-found c =
    let session = c.self.inside in
    let fresh = subst (λ (s : Standing). IsFresh s.plan s.tree.nodes (seen_by s)) (sym c.self.view_is) c.requires in
    subst (Holds session.plan session.tree.nodes) (sym c.found-found.ensures)
    (holds-fresh session.plan session.tree.nodes session.kept c.laws.ensures.ordered c.self.invariant.held.patterns fresh)

pub returns : goal.returns
returns c = subst (λ (s : Standing). IfOk c.count_outcomes.result (λ counts. counts ≡ counts_of s.plan s.tree.nodes)) c.self.view_is c.count_outcomes.ensures
