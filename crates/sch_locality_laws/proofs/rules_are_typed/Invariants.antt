-- The rules so far have well typed contexts.
use Rattle.std.proofs.Common.{take, All}
use Rattle.sch_compiled.specs.Plan.{rules_of}
use Rattle.sch_locality_laws.specs.Locality.{RuleTyped}
use Rattle.sch_locality_laws.proofs.rules_are_typed.Given as goal

abbrev pub invariant-loop-r : goal.invariant-loop-r
invariant-loop-r l = All RuleTyped (take l.r (rules_of l.plan l.fn.p))
