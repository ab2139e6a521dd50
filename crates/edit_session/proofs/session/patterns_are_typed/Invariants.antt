-- Those of the patterns so far are.
use Rattle.std.proofs.Common.{ℕ, ◌<◌}
use Rattle.kept_units.specs.Locality.{RulesTyped}
use Rattle.edit_session.proofs.session.patterns_are_typed.Given as goal

abbrev pub invariant-loop-p : goal.invariant-loop-p
invariant-loop-p l = (q : ℕ) → q < l.p → RulesTyped l.plan q
