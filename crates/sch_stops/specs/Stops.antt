-- What stops a run: the status and the line that it ends with, and the file that it names.
use Rattle.std.specs.Prelude.{ℕ, ◌==◌, Bool, false, if◌then◌else◌, List, Option, None, Some, IfSome, MatchResult, Result, Ok, Err}
use Rattle.sch_io.specs.Counts.{one_more}
use Rattle.edit_script.specs.declared.fault.ScriptError.{ScriptError}
use Rattle.edit_script.specs.declared.fault.ScriptError.TheVariants as script
use Rattle.sch_words.specs.Status.{code_of}
use Rattle.sch_words.specs.declared.status.Status.{Status}
use Rattle.sch_words.specs.declared.status.Status.TheVariants as status
use Rattle.sch_stops.specs.declared.stop.Stop.{Stop}
use Rattle.sch_stops.specs.declared.stop.Stop.TheVariants.{Usage, SchemaRefused, DocumentRefused, ScriptRefused, Missing, ReadFault, WriteFault, Memory}
use Rattle.sch_stops.specs.declared.refusal.ScriptRefusal.TheVariants as refused
use Rattle.sch_stops.specs.Refusals.{document_refused_line, file_in, schema_refused_line, script_refused_line}
use Rattle.sch_stops.specs.Output.{Output, stopped, usage_line, missing_line, read_fault_line, write_fault_line, memory_line}

-- the status of a stop
abbrev pub status_of : Stop → Status
status_of Usage = status.Usage
status_of (SchemaRefused refusal) = status.SchemaRefused
status_of (DocumentRefused refusal) = status.DocumentRefused
status_of (ScriptRefused refusal) = status.ScriptRefused
status_of (Missing name) = status.Missing
status_of (ReadFault name) = status.ReadFault
status_of WriteFault = status.WriteFault
status_of Memory = status.Memory

-- the line of a stop
abbrev pub line_of : Stop → List ℕ
line_of Usage = usage_line
line_of (SchemaRefused refusal) = schema_refused_line refusal
line_of (DocumentRefused refusal) = document_refused_line refusal
line_of (ScriptRefused refusal) = script_refused_line refusal
line_of (Missing name) = missing_line name
line_of (ReadFault name) = read_fault_line name
line_of WriteFault = write_fault_line
line_of Memory = memory_line

-- the name of a file that a stop tells
abbrev pub name_in : Stop → Option (List ℕ)
name_in Usage = None
name_in (SchemaRefused refusal) = file_in refusal
name_in (DocumentRefused refusal) = None
name_in (ScriptRefused refusal) = None
name_in (Missing name) = Some name
name_in (ReadFault name) = Some name
name_in WriteFault = None
name_in Memory = None

-- the output of a run that was stopped
abbrev pub stopped_by : Stop → Output
stopped_by stop = stopped (status_of stop) (line_of stop)

-- what holds of a stop: one thing of the name of a file that was not read, another of a failed write, another of want of memory, and
-- else one of the output, which files and words decide
abbrev pub ByCause : (Output → Type 0) → (List ℕ → Type 0) → Type 0 → Type 0 → Stop → Type 0
ByCause decided failed unwritten memory (ReadFault name) = failed name
ByCause decided failed unwritten memory WriteFault = unwritten
ByCause decided failed unwritten memory Memory = memory
ByCause decided failed unwritten memory stop = decided (stopped_by stop)

-- whether a run ends with the wanted status
abbrev pub is_status : Status → Status → Bool
is_status wanted status = code_of status == code_of wanted

-- whether the result is a stop of the wanted status
abbrev pub ends_with : {A : Type 0} → Status → Result A Stop → Bool
ends_with wanted (Ok value) = false
ends_with wanted (Err stop) = is_status wanted (status_of stop)

-- a name that the result tells is such a one
abbrev pub Names : {A : Type 0} → (List ℕ → Type 0) → Result A Stop → Type 0
Names is_such result = MatchResult result (λ _. Unit {0}) (λ stop. IfSome (name_in stop) is_such)

-- a count that rises by one where a run ends so, and else stays
abbrev pub counted_if : Bool → ℕ → ℕ
counted_if so before = if so then one_more before else before

-- the stop of a run whose script gives no command more
abbrev pub of_script : ScriptError → Stop
of_script (script.Fault fault) = ScriptRefused (refused.Faulted fault)
of_script script.Memory = Memory
