-- What is measured: a document, and what the commands of a script make of it.
use Rattle.std.specs.Prelude.{◌≡◌, ℕ, List, [], ◌++◌, codes, length, None, Some}
use Rattle.std.specs.Fmt.{decimal}
use Rattle.doc_tree.specs.Table.{Table}
use Rattle.doc_tree.specs.Walks.{order}
use Rattle.doc_tree.specs.declared.refusal.EditRefusal.{EditRefusal}
use Rattle.edit_script.specs.Script.{Script, nothing, onto, stops}
use Rattle.edit_script.specs.declared.command.Command.{Command as Edit}
use Rattle.edit_script.specs.declared.fault.ScriptFault.{ScriptFault}
use Rattle.edit_commands.specs.Commands.{IsEdited, command_refusal}
use Rattle.sch_compiled.specs.declared.plan.Plan.{Plan}
use Rattle.sch_undo.specs.Counts.{failed_assertions, fired_rules, successful_reports}
use Rattle.sch_undo.specs.shown.Shown.TheVariants as shown
use Rattle.sch_words.specs.declared.status.Status.{Status}
use Rattle.sch_words.specs.declared.status.Status.TheVariants.{Clean, Findings}
use Rattle.sch_commands.specs.Output.{Output, ended}
use Rattle.sch_commands.specs.Telling.{Telling, under}

-- the commands of a script make the document U of T
pub data LeadsTo (telling : Telling) : Table → Script → Table → Type 0 where
  to_the_end : (T : Table) → LeadsTo telling T nothing T
  to_a_fault : (T : Table) (fault : ScriptFault) → LeadsTo telling T (stops fault) T
  past_refused : (T U : Table) (command : Edit) (reason : EditRefusal) (rest : Script) →
      command_refusal (under telling T) command ≡ Some reason → LeadsTo telling T rest U → LeadsTo telling T (onto command rest) U
  past_edited : (T V U : Table) (command : Edit) (rest : Script) →
      command_refusal (under telling T) command ≡ None → IsEdited T command V → LeadsTo telling V rest U → LeadsTo telling T (onto command rest) U

-- four lines, each with a count of the first document and of the last one: live nodes, rules that fire, assertions that fail, reports
-- that succeed
abbrev pub counted_text : ℕ → ℕ → ℕ → ℕ → ℕ → ℕ → ℕ → ℕ → List ℕ
counted_text nodes nodes-last fired fired-last failed failed-last reports reports-last =
    codes "nodes " ++ (decimal nodes ++ (codes " " ++ (decimal nodes-last
    ++ (codes "\nfired " ++ (decimal fired ++ (codes " " ++ (decimal fired-last
    ++ (codes "\nfailed " ++ (decimal failed ++ (codes " " ++ (decimal failed-last
    ++ (codes "\nreports " ++ (decimal reports ++ (codes " " ++ (decimal reports-last ++ codes "\n")))))))))))))))

abbrev pub measure_text : Plan → Table → Table → List ℕ
measure_text plan T U =
    counted_text (length (order T)) (length (order U)) (fired_rules plan T) (fired_rules plan U)
    (failed_assertions plan T) (failed_assertions plan U) (successful_reports plan T) (successful_reports plan U)

-- the output of a measure, by the output of what it follows: its text where no state is a fault and the script is whole; else nothing
-- is written, and the status and the line are those
abbrev pub measured_as : Status → List ℕ → Output → Output
measured_as Clean text followed = ended text shown.Clean
measured_as Findings text followed = ended text shown.Clean
measured_as status text followed = record { out = []; err = followed.err; ends = followed.ends }
