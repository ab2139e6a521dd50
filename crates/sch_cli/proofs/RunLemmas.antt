-- How what was carried out ends the run.
use Rattle.std.proofs.Common.{◌≡◌, ℕ, List, [], ◌∷◌, ◌++◌, append_assoc, Option, None, Some, Result, Ok, Err, refl, ap, sym, subst, ◌∙◌}
use Rattle.sch_io.proofs.ReadThrough.{one_of_both}
use Rattle.sch_io.specs.Files.{Files}
use Rattle.sch_io.specs.ReadThrough.{ReadsThrough}
use Rattle.sch_io.specs.ShelfState.{ShelfState}
use Rattle.sch_io.specs.SinkLog.{SinkLog}
use Rattle.sch_io.specs.Wrote.{Appends, Wrote}
use Rattle.sch_io.specs.declared.error.Failed.{Failed}
use Rattle.sch_commands.specs.shown.Shown.{Shown}
use Rattle.sch_commands.specs.shown.Shown.TheVariants as shown
use Rattle.sch_words.specs.declared.status.Status.{Status}
use Rattle.sch_words.specs.declared.status.Status.TheVariants as status
use Rattle.sch_stops.specs.declared.watches.WatchesRefusal.TheVariants as watches
use Rattle.sch_stops.specs.Watches.{watch_place}
use Rattle.sch_stops.specs.declared.stop.Stop.{Stop}
use Rattle.sch_stops.specs.declared.stop.Stop.TheVariants.{Usage, SchemaRefused, DocumentRefused, ScriptRefused, Missing, ReadFault, WriteFault, Memory}
use Rattle.sch_stops.specs.Output.{Output}
use Rattle.sch_stops.specs.Refusals.{include_text, rule_text, script_fault_line, svrl_text}
use Rattle.sch_stops.specs.declared.refusal.DocumentRefusal.TheVariants as document
use Rattle.sch_stops.specs.declared.refusal.SchemaRefusal.TheVariants as schema
use Rattle.sch_stops.specs.declared.refusal.ScriptRefusal.TheVariants as script
use Rattle.sch_stops.specs.Stops.{Names, line_of}
use Rattle.sch_loading.specs.Stages.{goes, unread}
use Rattle.sch_loading.specs.Reads.{IsLastOf, extent_of, extent_of_stop}
use Rattle.sch_loading.proofs.PartLemmas.{names_in}
use Rattle.sch_commands.proofs.CarryLemmas.{counts_in}
use Rattle.sch_commands.specs.Behaviours.{IsEnd, asked_by}
use Rattle.sch_commands.specs.Carried.{Concluded, Concludes, Shows, Visits, line_of_end, status_of_end}
use Rattle.sch_commands.specs.Output.{faulted_line, line_shown}
use Rattle.sch_commands.specs.Steps.{CountsBy}
use Rattle.sch_cli.specs.Runs.{Costs, CountsOver, Decided, Ends, EndsBy, IsLast, IsLineOf, Tells, extent_of_status}
use Rattle.sch_cli.specs.inner.Ended.{HasStatus}

-- the status of a run is that of its end
pub ends_same : (result : Result Shown Stop) → HasStatus (status_of_end result) result
ends_same (Ok shown.Clean) = record { is = refl; missing = refl; read_fault = refl; write_fault = refl; writes = refl }
ends_same (Ok shown.Findings) = record { is = refl; missing = refl; read_fault = refl; write_fault = refl; writes = refl }
ends_same (Ok shown.Fault) = record { is = refl; missing = refl; read_fault = refl; write_fault = refl; writes = refl }
ends_same (Err stop) = record { is = refl; missing = refl; read_fault = refl; write_fault = refl; writes = refl }

-- the file that was opened last is the last one of the shelf
pub last_named : {A : Type 0} (old new opened : List (List ℕ)) (result : Result A Stop) → new ≡ old ++ opened → Names (IsLastOf opened) result → Names (λ name. IsLast name old new) result
last_named old new opened result noted = names_in (IsLastOf opened) (λ name. IsLast name old new)
    (λ name last. (last.0, noted ∙ ap (λ (names : List (List ℕ)). old ++ names) last.1 ∙ sym (append_assoc old last.0 (name ∷ [])))) result

-- the line of an end is that of its status
line_of_stop : (old new : List (List ℕ)) (result : Result Shown Stop) → Names (λ name. IsLast name old new) result → IsLineOf old new (status_of_end result) (line_of_end result)
line_of_stop old new (Ok shown.Clean) named = refl
line_of_stop old new (Ok shown.Findings) named = refl
line_of_stop old new (Ok shown.Fault) named = refl
line_of_stop old new (Err Usage) named = refl
line_of_stop old new (Err (SchemaRefused refusal)) named = (refusal, named, refl)
line_of_stop old new (Err (DocumentRefused refusal)) named = (refusal, refl)
line_of_stop old new (Err (ScriptRefused refusal)) named = (refusal, refl)
line_of_stop old new (Err (Missing name)) named = (name, named, refl)
line_of_stop old new (Err (ReadFault name)) named = (name, named, refl)
line_of_stop old new (Err WriteFault) named = refl
line_of_stop old new (Err Memory) named = refl

pub line_named : (old new : List (List ℕ)) (ends : Status) (result : Result Shown Stop) → ends ≡ status_of_end result → Names (λ name. IsLast name old new) result →
    IsLineOf old new ends (line_of_end result)
line_named old new ends result is named = subst (λ (status : Status). IsLineOf old new status (line_of_end result)) (sym is) (line_of_stop old new result named)

-- how far the files were read is what the status says
through_as : (old new : ShelfState) (result : Result Shown Stop) → ReadsThrough (extent_of result) old new → ReadsThrough (extent_of_status (status_of_end result)) old new
through_as old new (Ok shown.Clean) through = through
through_as old new (Ok shown.Findings) through = through
through_as old new (Ok shown.Fault) through = through
through_as old new (Err Usage) through = through
through_as old new (Err (Missing name)) through = through
through_as old new (Err (ReadFault name)) through = through
through_as old new (Err WriteFault) through = through
through_as old new (Err Memory) through = through
through_as old new (Err (SchemaRefused refusal)) through = one_of_both (extent_of_stop (SchemaRefused refusal)) old new through
through_as old new (Err (DocumentRefused refusal)) through = one_of_both (extent_of_stop (DocumentRefused refusal)) old new through
through_as old new (Err (ScriptRefused refusal)) through = one_of_both (extent_of_stop (ScriptRefused refusal)) old new through

pub read_so_far : (old new : ShelfState) (ends : Status) (result : Result Shown Stop) → ends ≡ status_of_end result → ReadsThrough (extent_of result) old new → ReadsThrough (extent_of_status ends) old new
read_so_far old new ends result is through = subst (λ (status : Status). ReadsThrough (extent_of_status status) old new) (sym is) (through_as old new result through)

pub ends_by : (ends : Status) (result : Result Shown Stop) → ends ≡ status_of_end result → HasStatus ends result
ends_by ends result is = subst (λ (status : Status). HasStatus status result) (sym is) (ends_same result)

-- a line that was written is told
told_line : (old new : SinkLog) (line : List ℕ) (result : Result (Unit {0}) Failed) → (line ≡ [] → ⊥) → Wrote old new line result → Tells old new line
told_line old new [] result some wrote = absurd (some refl)
told_line old new (b ∷ line) result some wrote = (result, wrote)

-- each stop has a line
has_line : (stop : Stop) → line_of stop ≡ [] → ⊥
unfolding include_text rule_text script_fault_line svrl_text watch_place
has_line Usage none = cc
has_line (SchemaRefused (schema.File name refusal)) none = cc
has_line (SchemaRefused (schema.Include kind name)) none = cc
has_line (SchemaRefused (schema.Rule fault location)) none = cc
has_line (SchemaRefused (schema.Watches watches.TooLarge)) none = cc
has_line (SchemaRefused (schema.Watches (watches.Faulted fault))) none = cc
has_line (DocumentRefused (document.File refusal)) none = cc
has_line (DocumentRefused document.TooManyPairs) none = cc
has_line (DocumentRefused (document.Report fault location)) none = cc
has_line (ScriptRefused script.TooLarge) none = cc
has_line (ScriptRefused (script.Faulted fault)) none = cc
has_line (Missing name) none = cc
has_line (ReadFault name) none = cc
has_line WriteFault none = cc
has_line Memory none = cc

-- and where it was written it is told
pub told_stop : (old new : SinkLog) (stop : Stop) (result : Result (Unit {0}) Failed) → Wrote old new (line_of stop) result → Tells old new (line_of stop)
told_stop old new stop result = told_line old new (line_of stop) result (has_line stop)

pub told_fault : (old new : SinkLog) (last : Shown) (result : Result (Unit {0}) Failed) → last ≡ shown.Fault → Wrote old new faulted_line result → Tells old new (line_shown last)
told_fault old new last result fault wrote = subst (λ (s : Shown). Tells old new (line_shown s)) (sym fault) (result, wrote)

-- an output that was shown is one that is decided
decided : (is_output : Output → Type 0) (written told : List ℕ → Type 0) (ends : Status) (line : List ℕ) → Shows is_output written ends line → told line → Decided is_output written told ends
decided is_output written told ends line shows tells =
    record { output = shows.output; may_be = shows.may_be; ends = shows.ends_so; out = shows.out; err = subst told (sym shows.err_is) tells }

-- what was concluded is what the status says
ends_as : (is_output : Output → Type 0) (comes_to comes_to_write written told : List ℕ → Type 0) (result : Result Shown Stop) → Concludes is_output comes_to comes_to_write written result →
    told (line_of_end result) → EndsBy is_output comes_to comes_to_write written told (status_of_end result)
ends_as is_output comes_to comes_to_write written told (Ok shown.Clean) ends tells = decided is_output written told status.Clean [] ends tells
ends_as is_output comes_to comes_to_write written told (Ok shown.Findings) ends tells = decided is_output written told status.Findings [] ends tells
ends_as is_output comes_to comes_to_write written told (Ok shown.Fault) ends tells = decided is_output written told status.Faulted faulted_line ends tells
ends_as is_output comes_to comes_to_write written told (Err Usage) ends tells = decided is_output written told status.Usage (line_of Usage) ends tells
ends_as is_output comes_to comes_to_write written told (Err (SchemaRefused refusal)) ends tells = decided is_output written told status.SchemaRefused (line_of (SchemaRefused refusal)) ends tells
ends_as is_output comes_to comes_to_write written told (Err (DocumentRefused refusal)) ends tells = decided is_output written told status.DocumentRefused (line_of (DocumentRefused refusal)) ends tells
ends_as is_output comes_to comes_to_write written told (Err (ScriptRefused refusal)) ends tells = decided is_output written told status.ScriptRefused (line_of (ScriptRefused refusal)) ends tells
ends_as is_output comes_to comes_to_write written told (Err (Missing name)) ends tells = decided is_output written told status.Missing (line_of (Missing name)) ends tells
ends_as is_output comes_to comes_to_write written told (Err (ReadFault name)) ends tells = record { name = name; comes = ends.0; out = ends.1; err = tells }
ends_as is_output comes_to comes_to_write written told (Err WriteFault) ends tells = (ends, tells)
ends_as is_output comes_to comes_to_write written told (Err Memory) ends tells = (ends, tells)

-- the same over a shelf that tells its files
pub run_ends : (words : List (List ℕ)) (files : Option Files) (opens : List (List ℕ) → Type 0) (opened : List (List ℕ)) (a b : Option (List ℕ)) (c d : SinkLog) (status : Status) (result : Result Shown Stop) →
    status ≡ status_of_end result → Tells c d (line_of_end result) → opens opened →
    ((held : Files) → files ≡ Some held → Concluded (asked_by words) held opened (Appends a b) result) → Ends files words opens (Appends a b) (Tells c d) status
run_ends words None opens opened a b c d status result is tells these ends = tt
run_ends words (Some files) opens opened a b c d status result is tells these ends = record {
  opened = opened;
  opens_these = these;
  ends = subst (EndsBy (IsEnd ((asked_by words).ends files) opened) (λ name. (asked_by words).ends files opened (unread name)) (λ text. (asked_by words).begins files opened (goes text)) (Appends a b) (Tells c d)) (sym is)
      (ends_as (IsEnd ((asked_by words).ends files) opened) (λ name. (asked_by words).ends files opened (unread name)) (λ text. (asked_by words).begins files opened (goes text)) (Appends a b) (Tells c d) result (ends files refl) tells);
}

-- what a run counts by the files that it opened is what it counts
pub run_counts : (words : List (List ℕ)) (files : Option Files) (opened : List (List ℕ)) (ends : Status) (result : Result Shown Stop) (before after : ℕ) → ends ≡ status_of_end result →
    ((held : Files) → files ≡ Some held → CountsBy (Visits (asked_by words) held opened) (status_of_end result) before after) → CountsOver files words ends before after
run_counts words None opened ends result before after is counts = tt
run_counts words (Some files) opened ends result before after is counts = subst (λ (s : Status). CountsBy (Costs words files) s before after) (sym is)
    (counts_in (Visits (asked_by words) files opened) (Costs words files) (λ cost so. (opened, so)) (status_of_end result) before after (counts files refl))
