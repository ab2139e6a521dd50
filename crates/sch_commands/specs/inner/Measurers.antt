-- Where the measuring of a script stands, and how it comes from one place to another.
use Rattle.std.specs.Prelude.{◌≡◌, ℕ, Bool, true, false, length, List, Result, Ok, IfOk, MatchResult}
use Rattle.sch_io.specs.SinkLog.{SinkLog}
use Rattle.doc_tree.specs.Table.{Table}
use Rattle.doc_tree.specs.Walks.{order}
use Rattle.edit_script.specs.Faults.{IfFault}
use Rattle.edit_script.specs.Script.{nothing, script_left, stops}
use Rattle.edit_script.specs.declared.fault.ScriptError.{ScriptError}
use Rattle.edit_script.specs.declared.fault.ScriptFault.{ScriptFault}
use Rattle.sch_compiled.specs.declared.plan.Plan.{Plan}
use Rattle.sch_undo.specs.Counts.{counts_of}
use Rattle.sch_undo.specs.Pairs.{pair_cap_for}
use Rattle.sch_undo.specs.shown.Shown.{Shown}
use Rattle.sch_undo.specs.shown.Shown.TheVariants.{Clean, Findings, Fault}
use Rattle.sch_stops.specs.declared.stop.Stop.{Stop}
use Rattle.sch_stops.specs.Stops.{of_script}
use Rattle.sch_commands.specs.Measuring.{LeadsTo, counted_text}
use Rattle.sch_commands.specs.declared.measuring.Measured.{Measured}
use Rattle.sch_commands.specs.declared.measuring.Measurer.{Measurer}
use Rattle.sch_commands.specs.inner.Counts.{CountsAhead, IsCosted}
use Rattle.sch_commands.specs.inner.Followers.{IsLed, Place}
use Rattle.sch_commands.specs.inner.Sessions.{IsEvaluated, document_of}
use Rattle.sch_commands.specs.inner.Writing.{WroteText}

-- whether a fault is shown
abbrev pub is_fault : Shown → Bool
is_fault Fault = true
is_fault Clean = false
is_fault Findings = false

-- what is measured of a document
abbrev pub measured_of : Plan → Table → Measured
measured_of plan T = record { nodes = length (order T); counts = counts_of plan T }

-- the text of what was measured first and last
abbrev pub text_of_both : Measured → Measured → List ℕ
text_of_both first last =
    counted_text first.nodes last.nodes first.counts.fired last.counts.fired
    first.counts.failed last.counts.failed first.counts.reports last.counts.reports

-- where a measurer stands, by the number of the next command and what the states so far show
abbrev pub place_at : Measurer → ℕ → Shown → Place
place_at at number seen = record { session = document_of at.session; script = script_left at.script; number = number; seen = seen }

-- the later place is behind the earlier one: in what is written, in the document that is made, and in what it costs
pub record Moved (earlier later : Place) (before after : ℕ) : Type 0 where
  pub text : List ℕ
  pub led : IsLed earlier later text
  pub leads : (U : Table) → LeadsTo later.session.telling later.session.tree.nodes later.script U →
      LeadsTo earlier.session.telling earlier.session.tree.nodes earlier.script U
  pub costed : IsCosted earlier later before after

-- a measurer stands behind a place, and knows whether a state so far is a fault
pub record MovesTo (earlier : Place) (at : Measurer) (before after : ℕ) : Type 0 where
  pub number : ℕ
  pub seen : Shown
  pub moved : Moved earlier (place_at at number seen) before after
  pub faulted : at.faulted ≡ is_fault seen

-- the document has its plan's pair cap, was evaluated and was measured
pub record IsUnderWay (at : Measurer) : Type 0 where
  pub cap : at.session.tree.pair_cap ≡ pair_cap_for at.session.plan
  pub fresh : IsEvaluated at.session
  pub last : at.last ≡ measured_of at.session.plan at.session.tree.nodes

-- behind a place the script has a fault
pub record StopsAt (earlier : Place) (before after : ℕ) (fault : ScriptFault) : Type 0 where
  pub later : Place
  pub moved : Moved earlier later before after
  pub stopped : later.script ≡ stops fault

-- the script was gone through from a place on, or has a fault, or memory ran out, which counts at most the visits of all
abbrev pub RestMeasured : Place → Measurer → ℕ → ℕ → Result (Unit {0}) Stop → Type 0
RestMeasured earlier at before after result = MatchResult result
    (λ _. MovesTo earlier at before after × (script_left at.script ≡ nothing))
    (λ stop. (error : ScriptError) × (stop ≡ of_script error) × IfFault (StopsAt earlier before after) error × CountsAhead earlier before after)

-- where a state is a fault nothing was written; else the text was, or a front of it
abbrev pub ConcludesMeasure : Bool → SinkLog → SinkLog → List ℕ → Result Shown Stop → Type 0
ConcludesMeasure true old new text result = (result ≡ Ok Fault) × (new ≡ old)
ConcludesMeasure false old new text result = WroteText old new text result × IfOk result (λ last. last ≡ Clean)
