-- The rest is lacking.
use Rattle.std.proofs.Common.{◌≡◌, [], drop}
use Rattle.sch_plan.specs.Lets.{with_prefixes}
use Rattle.sch_plan.proofs.scopes.bound.Given as goal

abbrev pub invariant-loop-ns : goal.invariant-loop-ns
invariant-loop-ns l = (l.env.in_pattern ≡ l.in_pattern) × (l.env.variables ≡ []) × (with_prefixes l.env.prefixes (drop l.ns-index l.prefixes) ≡ with_prefixes [] l.prefixes)
