-- Outcomes that are answers.
use Rattle.std.specs.Prelude.{◌≡◌, Ok}
use Rattle.xp_outcome.specs.Evaluation.{Evaluation}
use Rattle.xp_values.specs.declared.values.EvalFault.{EvalFault}
use Rattle.sch_compiled.specs.declared.findings.Outcome.{Outcome}
use Rattle.sch_compiled.specs.declared.findings.Outcome.TheVariants.{Fault}

-- the answer of an evaluation is no fault: its faults are no answers
abbrev pub GivesNoFault : Evaluation EvalFault Outcome → Type 0
GivesNoFault m = (f : EvalFault) → m.answer ≡ Ok (Fault f) → ⊥
