-- By what is kept.
use Rattle.std.proofs.Common.{◌≡◌, length, subst}
use Rattle.std.specs.Prelude.{filter}
use Rattle.kept_units.specs.Units.{units_of}
use Rattle.kept_units.specs.Running.{is_stale}
use Rattle.edit_session.specs.Standing.{Standing, seen_by}
use Rattle.edit_session.proofs.session.Session.stale_count.Goals as goal

pub stale_count-requires-clause-patterns : goal.stale_count-requires-clause-patterns
stale_count-requires-clause-patterns c = c.self.invariant.held.patterns

pub returns : goal.returns
returns c = subst (λ (s : Standing). c.stale_count.result ≡ length (filter (is_stale (seen_by s)) (units_of s.plan s.tree.nodes))) c.self.view_is c.stale_count.ensures
