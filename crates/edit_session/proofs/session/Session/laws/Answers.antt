-- What is kept is the state.
use Rattle.std.proofs.Common.{ℕ, ◌<◌, ◌≤◌, length, subst}
use Rattle.doc_tree.specs.Walks.{order}
use Rattle.kept_units.specs.Locality.{RulesTyped}
use Rattle.kept_units.specs.Kept.{Keeps}
use Rattle.edit_session.specs.Standing.{Standing, seen_by}
use Rattle.edit_session.proofs.session.Session.laws.Goals as goal

pub returns-clause-keeps : goal.returns-clause-keeps
returns-clause-keeps c = subst (λ (s : Standing). Keeps s.plan s.tree.nodes (seen_by s)) c.self.view_is c.self.invariant.keeps

pub returns-clause-typed : goal.returns-clause-typed
returns-clause-typed c = subst (λ (s : Standing). (p : ℕ) → p < length s.plan.patterns → RulesTyped s.plan p) c.self.view_is c.self.invariant.typed

pub returns-clause-within : goal.returns-clause-within
returns-clause-within c = subst (λ (s : Standing). length (order s.tree.nodes) ≤ s.tree.pair_cap) c.self.view_is c.self.invariant.within
