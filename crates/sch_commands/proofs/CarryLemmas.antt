-- How the run of a command ends whose stages made a value ready, or were stopped.
use Rattle.std.proofs.Common.{◌∙◌, ◌≡◌, ◌⊎◌, ⊎_elim, inl, inr, ℕ, Bool, true, false, ◌&&◌, List, [], IfErr, IfSome, Option, Result, Ok, Err, refl, ap, sym, subst, arith, true≢false}
use Rattle.std.proofs.KnownBytes.{Appends-nil}
use Rattle.sch_io.specs.Files.{Files}
use Rattle.sch_io.specs.ReadThrough.{ReadsThrough, all_files}
use Rattle.sch_io.specs.ShelfState.{ShelfState}
use Rattle.sch_io.specs.SinkLog.{SinkLog}
use Rattle.sch_io.specs.Wrote.{Appends}
use Rattle.sch_undo.specs.shown.Shown.{Shown}
use Rattle.sch_words.specs.declared.status.Status.{Status}
use Rattle.sch_words.specs.declared.status.Status.TheVariants as status
use Rattle.sch_stops.specs.declared.stop.Stop.{Stop}
use Rattle.sch_stops.specs.declared.stop.Stop.TheVariants.{Usage, SchemaRefused, DocumentRefused, ScriptRefused, Missing, ReadFault, WriteFault, Memory}
use Rattle.sch_commands.specs.Behaviours.{Any, Behaviour, IsEnd, from}
use Rattle.sch_loading.specs.Reads.{IsLastOf, Named, Reads, extent_of}
use Rattle.sch_stops.specs.Output.{Output}
use Rattle.sch_commands.specs.Output.{ended}
use Rattle.sch_commands.specs.Written.{Fronted, may_have_written}
use Rattle.sch_stops.specs.Stops.{Names, counted_if, ends_with, is_status, status_of, stopped_by}
use Rattle.sch_loading.specs.Stages.{Stage, Then, goes, halts, unread}
use Rattle.sch_commands.specs.Steps.{CountsAtMost, CountsBy, CountsStopped}
use Rattle.sch_commands.specs.Carried.{Carried, Concludes, Shows, Visits, status_of_end}
use Rattle.sch_commands.specs.inner.Behind.{WritesBehind}
use Rattle.sch_commands.specs.inner.Writing.{IsOfWriting}
use Rattle.sch_loading.proofs.StageLemmas.{goes-on, halts-first, unread-first}
use Rattle.sch_loading.proofs.PartLemmas.{all-first, by_cause}

-- Ends in weaker form

fronted_in : (Q Q' written : List ℕ → Type 0) → ((text : List ℕ) → Q text → Q' text) → Fronted Q written → Fronted Q' written
fronted_in Q Q' written comes front = record {
  text = front.text;
  comes = comes front.text front.comes;
  done = front.done;
  left = front.left;
  is_front = front.is_front;
  out = front.out;
}

shows_in : (P P' : Output → Type 0) (written : List ℕ → Type 0) → ((output : Output) → P output → P' output) → (says : Output) → Shows P written says.ends says.err → Shows P' written says.ends says.err
shows_in P P' written may says shows = record {
  output = shows.output;
  may_be = may shows.output shows.may_be;
  ends_so = shows.ends_so;
  err_is = shows.err_is;
  out = shows.out;
}

pub concludes_in : (P P' : Output → Type 0) (R R' Q Q' written : List ℕ → Type 0) → ((output : Output) → P output → P' output) → ((name : List ℕ) → R name → R' name) →
    ((text : List ℕ) → Q text → Q' text) → (result : Result Shown Stop) → Concludes P R Q written result → Concludes P' R' Q' written result
concludes_in P P' R R' Q Q' written may failed comes (Ok last) shows = shows_in P P' written may (ended [] last) shows
concludes_in P P' R R' Q Q' written may failed comes (Err stop) stopped =
    by_cause (λ says. Shows P written says.ends says.err) (λ says. Shows P' written says.ends says.err) (λ name. R name × written []) (λ name. R' name × written [])
    (Fronted Q written) (Fronted Q' written) (written [] ⊎ Fronted Q written) (written [] ⊎ Fronted Q' written)
    (λ stop shows. shows_in P P' written may (stopped_by stop) shows) (λ name is. (failed name is.0, is.1)) (fronted_in Q Q' written comes)
    (⊎_elim (λ (none : written []). inl none) (λ (front : Fronted Q written). inr (fronted_in Q Q' written comes front))) stop stopped

stopped_in : (costs costs' : ℕ → Type 0) → ((cost : ℕ) → costs cost → costs' cost) → (before after : ℕ) → CountsStopped costs before after → CountsStopped costs' before after
stopped_in costs costs' weaker before after = ⊎_elim (λ (none : after ≡ before). inl none) (λ (some : CountsAtMost costs before after). inr (some.0, weaker some.0 some.1, some.2))

pub counts_in : (costs costs' : ℕ → Type 0) → ((cost : ℕ) → costs cost → costs' cost) → (status : Status) (before after : ℕ) → CountsBy costs status before after → CountsBy costs' status before after
counts_in costs costs' weaker status.Clean before after counts = (counts.0, weaker counts.0 counts.1, counts.2)
counts_in costs costs' weaker status.Findings before after counts = (counts.0, weaker counts.0 counts.1, counts.2)
counts_in costs costs' weaker status.Faulted before after counts = (counts.0, weaker counts.0 counts.1, counts.2)
counts_in costs costs' weaker status.ScriptRefused before after counts = stopped_in costs costs' weaker before after counts
counts_in costs costs' weaker status.WriteFault before after counts = stopped_in costs costs' weaker before after counts
counts_in costs costs' weaker status.Memory before after counts = stopped_in costs costs' weaker before after counts
counts_in costs costs' weaker _ before after counts = counts

-- a value that the stages made ready gives one of which something holds
ready : {A B : Type 0} (stage : Stage A) (holds : A → B → Type 0) (opened : List (List ℕ)) (value : A) → stage opened (goes value) → (made : B) → holds value made →
    Then stage (λ value. Any (holds value)) opened (goes made)
ready stage holds opened value gone made is = goes-on stage (λ value. Any (holds value)) opened value (goes made) gone (refl, made, is, refl)

-- a stop behind the stages is none of theirs
no_name : {A : Type 0} (opened : List (List ℕ)) (result : Result A Stop) → IfErr result IsOfWriting → Names (IsLastOf opened) result
no_name opened (Ok value) writing = tt
no_name opened (Err stop) writing = subst (λ (told : Option (List ℕ)). IfSome told (IsLastOf opened)) (sym writing.unnamed) tt

pub no_stop : {A : Type 0} (wanted : Status) (result : Result A Stop) → ((stop : Stop) → IsOfWriting stop → is_status wanted (status_of stop) ≡ false) → IfErr result IsOfWriting → ends_with wanted result ≡ false
no_stop wanted (Ok value) differs writing = refl
no_stop wanted (Err stop) differs writing = differs stop writing

pub has_written : {A : Type 0} (result : Result A Stop) → IfErr result IsOfWriting → may_have_written result ≡ true
has_written (Ok value) writing = refl
has_written (Err stop) writing = writing.writes

evaluated : (evaluates : Bool) (written : Bool) → written ≡ true → (evaluates && written) ≡ false → evaluates ≡ false
evaluated false written is none = refl
evaluated true written is none = absurd (true≢false (sym is ∙ none))

-- files that were read before it were read to their end
through_by : {A : Type 0} (old new : ShelfState) (result : Result A Stop) → IfErr result IsOfWriting → ReadsThrough all_files old new → ReadsThrough (extent_of result) old new
through_by old new (Ok value) writing through = through
through_by old new (Err stop) writing through = writing.all_read old new through

-- the writing behind the stages
pub carried : {A B : Type 0} (named : List Named) (stage : Files → Stage A) (value_of : B → A) (outputs : A → Output → Type 0) (texts : A → List ℕ → Type 0) (visits : A → ℕ → Type 0) (evaluates : Bool)
    (old new : ShelfState) (log later : SinkLog) (before after : ℕ) (value : B) (result : Result Shown Stop) →
    Reads old new named stage value_of (Ok value) → WritesBehind outputs texts visits evaluates (value_of value) log later before after result →
    Carried (from named stage outputs texts visits evaluates) old new log later before after result
carried {A} named stage value_of outputs texts visits evaluates old new log later before after value result reads writes = record {
  held = reads.held;
  opened = reads.opened;
  noted = reads.noted;
  which = all-first named reads.opened reads.which;
  whole = λ files is. concludes_in (outputs (value_of value)) (IsEnd (asked.ends files) reads.opened) (λ _. ⊥) (λ name. asked.ends files reads.opened (unread name))
      (texts (value_of value)) (λ text. asked.begins files reads.opened (goes text)) (Appends log.written later.written)
      (λ output so. inl (ready (stage files) outputs reads.opened (value_of value) (reads.came files is) output so)) (λ name no. absurd no)
      (λ text so. ready (stage files) texts reads.opened (value_of value) (reads.came files is) text so) result writes.whole;
  counted = λ files is. counts_in (visits (value_of value)) (Visits asked files reads.opened)
      (λ cost so. ready (stage files) visits reads.opened (value_of value) (reads.came files is) cost so) (status_of_end result) before after writes.counted;
  faults = reads.faults ∙ ap (λ (b : Bool). counted_if b old.faults) (sym (no_stop status.ReadFault result (λ stop writing. writing.read_fault) writes.writing));
  misses = reads.misses ∙ ap (λ (b : Bool). counted_if b old.misses) (sym (no_stop status.Missing result (λ stop writing. writing.missing) writes.writing));
  write_faults = writes.write_faults;
  told = no_name reads.opened result writes.writing;
  through = through_by old new result writes.writing reads.through;
  untouched = λ none. absurd (true≢false (sym (has_written result writes.writing) ∙ none));
  unevaluated = λ none. writes.unevaluated (evaluated evaluates (may_have_written result) (has_written result writes.writing) none);
  rises = writes.rises;
}
  where
    asked : Behaviour
    asked = from named stage outputs texts visits evaluates

-- a run that stops before its first state may leave the count
pub uncounted : (costs : ℕ → Type 0) (count : ℕ) (stop : Stop) → CountsBy costs (status_of stop) count count
uncounted costs count Usage = refl
uncounted costs count (SchemaRefused refusal) = refl
uncounted costs count (DocumentRefused refusal) = refl
uncounted costs count (ScriptRefused refusal) = inl refl
uncounted costs count (Missing name) = refl
uncounted costs count (ReadFault name) = refl
uncounted costs count WriteFault = inl refl
uncounted costs count Memory = inl refl

-- the stages were stopped
pub stopped_before : {A B : Type 0} (named : List Named) (stage : Files → Stage A) (value_of : B → A) (outputs : A → Output → Type 0) (texts : A → List ℕ → Type 0) (visits : A → ℕ → Type 0) (evaluates : Bool)
    (old new : ShelfState) (log : SinkLog) (count : ℕ) (stop : Stop) (result : Result Shown Stop) → result ≡ Err stop →
    Reads {B = B} old new named stage value_of (Err stop) →
    Carried (from named stage outputs texts visits evaluates) old new log log count count result
stopped_before named stage value_of outputs texts visits evaluates old new log count stop result is reads =
    subst (λ (r : Result Shown Stop). Carried asked old new log log count count r) (sym is) (record {
      held = reads.held;
      opened = reads.opened;
      noted = reads.noted;
      which = reads.which;
      whole = λ files told. by_cause (λ output. stage files reads.opened (halts output)) (λ says. Shows (IsEnd (asked.ends files) reads.opened) (Appends log.written log.written) says.ends says.err)
          (λ name. stage files reads.opened (unread name)) (λ name. asked.ends files reads.opened (unread name) × Appends log.written log.written [])
          ⊥ (Fronted (λ text. asked.begins files reads.opened (goes text)) (Appends log.written log.written))
          (Unit {0}) (Appends log.written log.written [] ⊎ Fronted (λ text. asked.begins files reads.opened (goes text)) (Appends log.written log.written))
          (λ stop so. record {
            output = stopped_by stop;
            may_be = inr (halts-first (stage files) (λ value. Any (outputs value)) reads.opened (stopped_by stop) so);
            ends_so = refl;
            err_is = refl;
            out = Appends-nil log.written;
          })
          (λ name so. (unread-first (stage files) (λ value. Any (outputs value)) reads.opened name so, Appends-nil log.written)) (λ no. absurd no) (λ m. inl (Appends-nil log.written)) stop (reads.came files told);
      counted = λ files told. uncounted (Visits asked files reads.opened) count stop;
      faults = reads.faults;
      misses = reads.misses;
      write_faults = ap (λ (b : Bool). counted_if b log.faults) (sym reads.no_write);
      told = reads.told;
      through = reads.through;
      untouched = λ none. refl;
      unevaluated = λ none. refl;
      rises = omega arith;
    })
  where
    asked : Behaviour
    asked = from named stage outputs texts visits evaluates

-- what writes, or was stopped before, is not ended by the words
pub accepted : {A : Type 0} (result : Result A Stop) → IfErr result IsOfWriting → ends_with status.Usage result ≡ false
accepted result = no_stop status.Usage result (λ stop writing. writing.usage)

pub refused_early : {B : Type 0} (stop : Stop) (result : Result B Stop) → result ≡ Err stop → is_status status.Usage (status_of stop) ≡ false → ends_with status.Usage result ≡ false
refused_early {B = B} stop result is differs = subst (λ (r : Result B Stop). ends_with status.Usage r ≡ false) (sym is) differs
