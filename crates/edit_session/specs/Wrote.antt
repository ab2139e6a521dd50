-- What writing a state has done to its sink.
use Rattle.std.specs.Prelude.{◌≡◌, ℕ, ◌+◌, List, ◌++◌, Result, Ok, Err, MatchResult}
use Rattle.sch_io.specs.Counts.{one_more}
use Rattle.sch_io.specs.SinkLog.{SinkLog}
use Rattle.sch_io.specs.Wrote.{Appends}
use Rattle.doc_tree.specs.Table.{Table}
use Rattle.sch_compiled.specs.declared.plan.Plan.{Plan}
use Rattle.edit_session.specs.declared.state.ReportError.{ReportError}
use Rattle.edit_session.specs.declared.state.ReportError.TheVariants.{Failed, Memory}
use Rattle.edit_session.specs.shown.Shown.{Shown}
use Rattle.edit_session.specs.shown.Shown.TheVariants.{Fault}
use Rattle.edit_session.specs.State.{shows, state_text}

-- a state adds one to the sink's faults where a write failed, and none else
abbrev pub faults_of_state : Result Shown ReportError → ℕ → ℕ
faults_of_state (Ok shown) before = before
faults_of_state (Err Failed) before = one_more before
faults_of_state (Err Memory) before = before

-- the text of the state was appended whole, and the answer is what it shows; after an error a front of it was appended. A fault
-- is counted exactly where a write failed
pub record WroteState (old new : SinkLog) (plan : Plan) (T : Table) (result : Result Shown ReportError) : Type 0 where
  pub counted : new.faults ≡ faults_of_state result old.faults
  pub grown : MatchResult result (λ shown. (shown ≡ shows plan T) × Appends old.written new.written (state_text plan T))
      (λ _. (done left : List ℕ) × (state_text plan T ≡ done ++ left) × Appends old.written new.written done)

-- what holds of a report that didn't end for want of memory
abbrev pub UnlessMemory : Result Shown ReportError → Type 0 → Type 0
UnlessMemory (Ok shown) P = P
UnlessMemory (Err Failed) P = P
UnlessMemory (Err Memory) P = Unit {0}

-- a count rose by exactly an amount, where a report shows no fault
abbrev pub RoseBy : ℕ → ℕ → ℕ → Result Shown ReportError → Type 0
RoseBy amount before after (Ok shown) = (shown ≡ Fault → ⊥) → after ≡ before + amount
RoseBy amount before after (Err error) = Unit {0}
