-- What `run` promises of its outside, for each status.
use Rattle.std.specs.Prelude.{◌≡◌, ℕ, ◌⊎◌, ◌&&◌, Bool, List, [], ◌∷◌, ◌++◌, Option, None, Some, IfSome, Result}
use Rattle.sch_io.specs.Files.{Files}
use Rattle.sch_io.specs.ReadThrough.{Extent, all_files, all_but_last, all_or_but_last}
use Rattle.sch_io.specs.SinkLog.{SinkLog}
use Rattle.sch_io.specs.Wrote.{Wrote}
use Rattle.sch_io.specs.declared.error.Failed.{Failed}
use Rattle.sch_words.specs.declared.status.Status.{Status}
use Rattle.sch_words.specs.declared.status.Status.TheVariants.{Clean, Findings, Usage, SchemaRefused, DocumentRefused, ScriptRefused, Faulted, Missing, ReadFault, WriteFault, Memory}
use Rattle.sch_stops.specs.declared.refusal.DocumentRefusal.{DocumentRefusal}
use Rattle.sch_stops.specs.declared.refusal.SchemaRefusal.{SchemaRefusal}
use Rattle.sch_stops.specs.declared.refusal.ScriptRefusal.{ScriptRefusal}
use Rattle.sch_stops.specs.Refusals.{document_refused_line, file_in, schema_refused_line, script_refused_line}
use Rattle.sch_stops.specs.Output.{Output, usage_line, missing_line, read_fault_line, write_fault_line, memory_line}
use Rattle.sch_commands.specs.Output.{faulted_line}
use Rattle.sch_loading.specs.Stages.{goes, unread}
use Rattle.sch_commands.specs.Steps.{CountsBy}
use Rattle.sch_commands.specs.Behaviours.{Behaviour, IsEnd, asked_by}
use Rattle.sch_commands.specs.Written.{Fronted, may_write}
use Rattle.sch_loading.specs.Reads.{Named, Opens}

-- the line was written to the error output, or a front of it where a fault of it was counted; where there is none, nothing was asked of it
abbrev pub Tells : SinkLog → SinkLog → List ℕ → Type 0
Tells old new [] = new ≡ old
Tells old new line = (result : Result (Unit {0}) Failed) × Wrote old new line result

-- files were opened, those that the command opens
pub record OpensFiles (named : List Named) (old new : List (List ℕ)) : Type 0 where
  pub opened : List (List ℕ)
  pub noted : new ≡ old ++ opened
  pub which : Opens named opened

-- the file of that name was opened last, and in this run
abbrev pub IsLast : List ℕ → List (List ℕ) → List (List ℕ) → Type 0
IsLast name old new = (earlier : List (List ℕ)) × (new ≡ (old ++ earlier) ++ name ∷ [])

-- an output that may be has this status, and its bytes and its line were written
pub record Decided (is_output : Output → Type 0) (written told : List ℕ → Type 0) (status : Status) : Type 0 where
  pub output : Output
  pub may_be : is_output output
  pub ends : output.ends ≡ status
  pub out : written output.out
  pub err : told output.err

-- a file to which the run comes was not read, and nothing was written
pub record Unread (comes_to : List ℕ → Type 0) (written told : List ℕ → Type 0) : Type 0 where
  pub name : List ℕ
  pub comes : comes_to name
  pub out : written []
  pub err : told (read_fault_line name)

-- what a status says of the bytes on the output and the line on the error output, by the outputs that may be, the files to
-- which the run comes, and the texts that it comes to write
abbrev pub EndsBy : (Output → Type 0) → (List ℕ → Type 0) → (List ℕ → Type 0) → (List ℕ → Type 0) → (List ℕ → Type 0) → Status → Type 0
EndsBy is_output comes_to comes_to_write written told ReadFault = Unread comes_to written told
EndsBy is_output comes_to comes_to_write written told WriteFault = Fronted comes_to_write written × told write_fault_line
EndsBy is_output comes_to comes_to_write written told Memory = (written [] ⊎ Fronted comes_to_write written) × told memory_line
EndsBy is_output comes_to comes_to_write written told status = Decided is_output written told status

-- what was asked for ends so, and the files that were opened are those of its stages, up to the one where it ends
pub record EndsAsked (asked : Behaviour) (files : Files) (opens : List (List ℕ) → Type 0) (written told : List ℕ → Type 0) (status : Status) : Type 0 where
  pub opened : List (List ℕ)
  pub opens_these : opens opened
  pub ends : EndsBy (IsEnd (asked.ends files) opened) (λ name. asked.ends files opened (unread name)) (λ text. asked.begins files opened (goes text))
      written told status

-- the same over a shelf that tells its files; one that tells none decides nothing
abbrev pub Ends : Option Files → List (List ℕ) → (List (List ℕ) → Type 0) → (List ℕ → Type 0) → (List ℕ → Type 0) → Status → Type 0
Ends None words opens written told status = Unit {0}
Ends (Some files) words opens written told status = EndsAsked (asked_by words) files opens written told status

-- the visits of what the words ask for
abbrev pub Costs : List (List ℕ) → Files → ℕ → Type 0
Costs words files cost = (opened : List (List ℕ)) × (asked_by words).costs files opened (goes cost)

-- what a status says of the count of steps, over a shelf that tells its files; one that tells none decides no visits
abbrev pub CountsOver : Option Files → List (List ℕ) → Status → ℕ → ℕ → Type 0
CountsOver None words status before after = Unit {0}
CountsOver (Some files) words status before after = CountsBy (Costs words files) status before after

-- the line of a status; the file that it names is the one that was opened last
abbrev pub IsLineOf : List (List ℕ) → List (List ℕ) → Status → List ℕ → Type 0
IsLineOf old new Clean line = line ≡ []
IsLineOf old new Findings line = line ≡ []
IsLineOf old new Usage line = line ≡ usage_line
IsLineOf old new SchemaRefused line = (refusal : SchemaRefusal)
    × IfSome (file_in refusal) (λ name. IsLast name old new) × (line ≡ schema_refused_line refusal)
IsLineOf old new DocumentRefused line = (refusal : DocumentRefusal) × (line ≡ document_refused_line refusal)
IsLineOf old new ScriptRefused line = (refusal : ScriptRefusal) × (line ≡ script_refused_line refusal)
IsLineOf old new Faulted line = line ≡ faulted_line
IsLineOf old new Missing line = (name : List ℕ) × IsLast name old new × (line ≡ missing_line name)
IsLineOf old new ReadFault line = (name : List ℕ) × IsLast name old new × (line ≡ read_fault_line name)
IsLineOf old new WriteFault line = line ≡ write_fault_line
IsLineOf old new Memory line = line ≡ memory_line

-- how far the files that were opened were read: all to their end, or all but the last one, at which the run was stopped
abbrev pub extent_of_status : Status → Extent
extent_of_status Clean = all_files
extent_of_status Findings = all_files
extent_of_status Usage = all_files
extent_of_status SchemaRefused = all_or_but_last
extent_of_status DocumentRefused = all_or_but_last
extent_of_status ScriptRefused = all_or_but_last
extent_of_status Faulted = all_files
extent_of_status Missing = all_but_last
extent_of_status ReadFault = all_but_last
extent_of_status WriteFault = all_files
extent_of_status Memory = all_or_but_last

-- a run that ends so may have evaluated, where it was asked for evaluations
abbrev pub may_evaluate : List (List ℕ) → Status → Bool
may_evaluate words status = (asked_by words).evaluates && may_write status
