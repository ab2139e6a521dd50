-- Whoever walks the rest has walked the whole.
use Rattle.std.proofs.Common.{drop}
use Rattle.sch_plan.specs.Rules.{one_part}
use Rattle.sch_plan.proofs.Loops.{EveryLeft}
use Rattle.sch_plan.proofs.scopes.Scopes.message.Given as goal

abbrev pub invariant-loop-part : goal.invariant-loop-part
invariant-loop-part l = EveryLeft (one_part l.self) l.parts l.list (drop l.part-index l.parts)
