-- The exit status of each way in which a run ends.
use Rattle.std.specs.Prelude.{ℕ}
use Rattle.sch_words.specs.declared.status.Status.{Status}
use Rattle.sch_words.specs.declared.status.Status.TheVariants.{Clean, Findings, Usage, SchemaRefused, DocumentRefused, ScriptRefused, Faulted, Missing, ReadFault, WriteFault, Memory}

-- the codes of the program's manual, in its order
abbrev pub code_of : Status → ℕ
code_of Clean = 0
code_of Findings = 1
code_of Usage = 2
code_of SchemaRefused = 3
code_of DocumentRefused = 4
code_of ScriptRefused = 5
code_of Faulted = 6
code_of Missing = 7
code_of ReadFault = 8
code_of WriteFault = 9
code_of Memory = 10
