-- What is kept of units, as the ends of runs: a fault that is kept is the run's, and after want of memory nothing is kept.
use Rattle.std.specs.Prelude.{Result, Ok, Err}
use Rattle.std.specs.declared.alloc.AllocError.{AllocError}
use Rattle.xp_outcome.specs.Recorded.{Recorded, nothing_read}
use Rattle.xp_outcome.specs.Running.{Stop, faulted, no_memory}
use Rattle.xp_values.specs.declared.values.Value.{Value}
use Rattle.xp_values.specs.declared.values.EvalFault.{EvalFault}
use Rattle.sch_compiled.specs.declared.findings.Outcome.{Outcome}
use Rattle.sch_compiled.specs.declared.findings.Outcome.TheVariants.{NoRule, Fired, Fault}
use Rattle.rule_run.specs.declared.kept.Kept.{Kept}
use Rattle.rule_run.specs.declared.kept.KeptLet.{KeptLet}

-- a value or a fault as the end of a run
abbrev pub value_shown : Result Value EvalFault → Result Value (Stop EvalFault)
value_shown (Ok v) = Ok v
value_shown (Err f) = Err (faulted f)

abbrev pub let_shown : Result KeptLet AllocError → Result Value (Stop EvalFault)
let_shown (Ok kept) = value_shown kept.value
let_shown (Err _) = Err no_memory

-- what was read for a let
abbrev pub let_reads : Result KeptLet AllocError → Recorded
let_reads (Ok kept) = kept.reads
let_reads (Err _) = nothing_read

-- an outcome, or the fault in it, as the end of a run
abbrev pub outcome_shown : Outcome → Result Outcome (Stop EvalFault)
outcome_shown NoRule = Ok NoRule
outcome_shown (Fired rule findings) = Ok (Fired rule findings)
outcome_shown (Fault f) = Err (faulted f)

-- the outcome of a node under a pattern as the end of a run, where it is kept alone
abbrev pub outcome_told : Result Outcome AllocError → Result Outcome (Stop EvalFault)
outcome_told (Ok outcome) = outcome_shown outcome
outcome_told (Err _) = Err no_memory

abbrev pub pair_shown : Result Kept AllocError → Result Outcome (Stop EvalFault)
pair_shown (Ok kept) = outcome_shown kept.outcome
pair_shown (Err _) = Err no_memory

-- what was read for a node under a pattern
abbrev pub pair_reads : Result Kept AllocError → Recorded
pair_reads (Ok kept) = kept.reads
pair_reads (Err _) = nothing_read
