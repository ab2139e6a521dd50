-- Whoever walks the rest has walked the whole.
use Rattle.std.proofs.Common.{drop}
use Rattle.sch_plan.specs.Rules.{diagnostics_of, one_diagnostic}
use Rattle.sch_plan.specs.inner.Ids.{found_in}
use Rattle.sch_plan.proofs.Loops.{EveryLeft}
use Rattle.sch_plan.proofs.walker.Walker.named.Given as goal

abbrev pub invariant-loop-id : goal.invariant-loop-id
invariant-loop-id l = EveryLeft (one_diagnostic l.self.seen) (diagnostics_of (found_in l.found.entries) l.ids) l.list (diagnostics_of (found_in l.found.entries) (drop l.id-index l.ids))
