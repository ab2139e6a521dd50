-- What a text shows that was written, and what stopped its writing.
use Rattle.std.specs.Prelude.{◌≡◌, Bool, true, false, Result, Ok, Err}
use Rattle.svrl_out.specs.declared.report.OutError.{OutError}
use Rattle.svrl_out.specs.declared.report.OutError.TheVariants as out
use Rattle.edit_session.specs.declared.state.ReportError.{ReportError}
use Rattle.edit_session.specs.declared.state.ReportError.TheVariants.{Failed, Memory}
use Rattle.edit_session.specs.shown.Shown.{Shown}
use Rattle.edit_session.specs.shown.Shown.TheVariants.{Clean, Findings}

-- what a report shows, by whether something was found
abbrev pub shown_of : Bool → Shown
shown_of true = Findings
shown_of false = Clean

-- what a text shows that was written, or what stopped its writing
abbrev pub ShownAs : Result (Unit {0}) OutError → Shown → Result Shown ReportError → Type 0
ShownAs (Ok done) shown result = result ≡ Ok shown
ShownAs (Err out.Failed) shown result = result ≡ Err Failed
ShownAs (Err out.Memory) shown result = result ≡ Err Memory
