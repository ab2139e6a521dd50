-- What a run gives that is not stopped, by what its states show.
use Rattle.std.specs.Prelude.{ℕ, List, [], ◌++◌, codes}
use Rattle.pyx_core.specs.Written.{text_of}
use Rattle.doc_tree.specs.Table.{Table}
use Rattle.sch_model.specs.declared.flat.FlatSchema.{FlatSchema}
use Rattle.sch_flat.specs.FlatDocument.{flat_events}
use Rattle.sch_compiled.specs.declared.plan.Plan.{Plan}
use Rattle.sch_undo.specs.State.{shows, state_text}
use Rattle.sch_undo.specs.shown.Shown.{Shown}
use Rattle.sch_undo.specs.shown.Shown.TheVariants as shown
use Rattle.svrl_read.specs.declared.value.SvrlReport.{SvrlReport}
use Rattle.svrl_summary.specs.Lines.{summary_lines}
use Rattle.sch_words.specs.declared.notice.Notice.{Notice}
use Rattle.sch_words.specs.declared.status.Status.{Status}
use Rattle.sch_words.specs.declared.status.Status.TheVariants.{Clean, Findings, Faulted}
use Rattle.sch_words.specs.Notices.{notice_text}
pub use Rattle.sch_stops.specs.Output.{Output, stopped, usage_line, missing_line, read_fault_line, write_fault_line, memory_line}

-- the line of the error output where a state is a fault
abbrev pub faulted_line : List ℕ
faulted_line = codes "sch: faulted\n"

-- the status of a run that comes to its end, by what its states show
abbrev pub status_shown : Shown → Status
status_shown shown.Clean = Clean
status_shown shown.Findings = Findings
status_shown shown.Fault = Faulted

-- and the line of the error output
abbrev pub line_shown : Shown → List ℕ
line_shown shown.Clean = []
line_shown shown.Findings = []
line_shown shown.Fault = faulted_line

-- a run that comes to its end with a text
abbrev pub ended : List ℕ → Shown → Output
ended text last = record { out = text; err = line_shown last; ends = status_shown last }

-- a text in front of what else is written
abbrev pub in_front : List ℕ → Output → Output
in_front text output = record { out = text ++ output.out; err = output.err; ends = output.ends }

-- what the program says of itself, which shows nothing to be found
abbrev pub notice_output : Notice → Output
notice_output notice = ended (notice_text notice) shown.Clean

-- a schema without abstract parts, as the text of its document
abbrev pub expanded : FlatSchema → Output
expanded flat = record { out = text_of (flat_events flat); err = []; ends = Clean }

-- a report, summed up
abbrev pub summed_up : SvrlReport → Output
summed_up report = record { out = summary_lines report; err = []; ends = Clean }

-- the state of a tree by a plan
abbrev pub state : Plan → Table → Output
state plan T = ended (state_text plan T) (shows plan T)
