-- The walk from what is seen when it begins, and the plan of what it gives.
use Rattle.std.specs.Prelude.{ℕ, List, Result, Ok, Err}
use Rattle.sch_compiled.specs.declared.plan.Plan.{Plan}
use Rattle.sch_model.specs.declared.parts.Head.{Head}
use Rattle.sch_model.specs.declared.parts.LetDecl.{LetDecl}
use Rattle.sch_model.specs.declared.parts.Ns.{Ns}
use Rattle.sch_plan.specs.declared.compilation.Walked.{Walked}
use Rattle.sch_phases.specs.declared.phases.Choice.{Choice}
use Rattle.sch_plan.specs.Compiled.{global_lets, plan_of}
use Rattle.sch_plan.specs.Lets.{Seen}
use Rattle.sch_plan.specs.Rules.{Notes, all_patterns}
use Rattle.sch_phases.specs.Walk.{Stretch, Then, goes}

abbrev pub planned : {E : Type 0} → Head → List Ns → Result Walked E → Result Plan E
planned head ns (Ok its) = Ok (plan_of head ns its.phase its.lets its.patterns)
planned head ns (Err e) = Err e

abbrev pub walk_from : Notes → ℕ → Seen → Head → List Ns → List LetDecl → Choice → Stretch Plan
walk_from notes count seen head ns lets choice =
    Then (global_lets seen lets choice.lets) (λ globals.
    Then (all_patterns notes count globals.0 choice.patterns) (λ patterns.
    goes (plan_of head ns choice.phase globals.1 patterns.1)))
