-- How the parts of a run end together.
use Rattle.std.proofs.Common.{◌∙◌, ◌≡◌, ◌≤◌, ℕ, ◌⊎◌, ⊎_elim, inr, Bool, false, List, [], ◌++◌, append_assoc, append-nil, IfOk, OnOk, Option, Result, Ok, Err, refl, ap, sym, subst}
use Rattle.std.proofs.KnownBytes.{Appends-nil, Appends-trans}
use Rattle.sch_io.proofs.ReadThrough.{one_of_both}
use Rattle.sch_io.specs.ReadThrough.{all_files}
use Rattle.sch_io.specs.SinkLog.{SinkLog}
use Rattle.sch_io.specs.Wrote.{Appends, Wrote}
use Rattle.sch_io.specs.declared.error.Failed.{Failed}
use Rattle.doc_tree.specs.Table.{Table}
use Rattle.sch_compiled.specs.declared.plan.Plan.{Plan}
use Rattle.sch_undo.specs.State.{state_text}
use Rattle.sch_undo.specs.Wrote.{WroteState}
use Rattle.sch_undo.specs.state.ReportError.{ReportError}
use Rattle.sch_undo.specs.state.ReportError.TheVariants as report
use Rattle.sch_undo.specs.shown.Shown.{Shown}
use Rattle.sch_words.specs.declared.status.Status.TheVariants as status
use Rattle.sch_stops.specs.declared.stop.Stop.{Stop}
use Rattle.sch_stops.specs.declared.stop.Stop.TheVariants.{WriteFault, Memory}
use Rattle.sch_stops.specs.Output.{Output}
use Rattle.sch_commands.specs.Output.{ended, in_front, line_shown, status_shown}
use Rattle.sch_commands.specs.Written.{AppendsFront, Fronted}
use Rattle.sch_stops.specs.Stops.{counted_if, ends_with}
use Rattle.sch_commands.specs.Steps.{CountsBy}
use Rattle.sch_commands.specs.Carried.{Concludes, Shows, status_of_end}
use Rattle.sch_commands.specs.inner.Behind.{WritesBehind}
use Rattle.sch_commands.specs.inner.Writing.{IsOfWriting, WroteText, of_report}
use Rattle.sch_loading.proofs.PartLemmas.{by_cause}

-- want of memory, and a failed write, are of what is written
pub memory_writing : IsOfWriting Memory
memory_writing = record { unnamed = refl; usage = refl; missing = refl; read_fault = refl; writes = refl; all_read = one_of_both all_files }

pub fault_writing : IsOfWriting WriteFault
fault_writing = record { unnamed = refl; usage = refl; missing = refl; read_fault = refl; writes = refl; all_read = λ _ _ all. all }

-- Texts that are written

-- nothing was written, for want of memory
pub memory_written : {A : Type 0} (log : SinkLog) (text : List ℕ) (result : Result A Stop) (stop : Stop) → result ≡ Err stop → stop ≡ Memory → WroteText {A = A} log log text result
memory_written {A = A} log text result stop is memory = subst (λ (r : Result A Stop). WroteText {A = A} log log text r) (sym (is ∙ ap Err memory)) (record {
  told = ([], text, refl, Appends-nil log.written);
  writing = memory_writing;
  faults = refl;
})

-- a text whose write failed
pub failed_written : {A T : Type 0} (old new : SinkLog) (text : List ℕ) (failed : Failed) (result : Result A Stop) → result ≡ Err WriteFault → Wrote {T = T} old new text (Err failed) →
    WroteText {A = A} old new text result
failed_written {A = A} old new text failed result is wrote = subst (λ (r : Result A Stop). WroteText {A = A} old new text r) (sym is) (record {
  told = wrote.grown;
  writing = fault_writing;
  faults = wrote.counted;
})

-- and one that was written
pub whole_written : {A T : Type 0} (old new : SinkLog) (text : List ℕ) (done : T) (value : A) → Wrote {T = T} {E = Failed} old new text (Ok done) → WroteText {A = A} old new text (Ok value)
whole_written old new text done value wrote = record { told = wrote.grown; writing = tt; faults = wrote.counted }

-- a state that was not written whole
pub report_stopped : (old new : SinkLog) (plan : Plan) (T : Table) (error : ReportError) (result : Result Shown Stop) (stop : Stop) → result ≡ Err stop → stop ≡ of_report error →
    WroteState old new plan T (Err error) → WroteText old new (state_text plan T) result
report_stopped old new plan T report.Failed result stop is says wrote = subst (λ (r : Result Shown Stop). WroteText old new (state_text plan T) r) (sym (is ∙ ap Err says)) (record {
  told = wrote.grown;
  writing = fault_writing;
  faults = wrote.counted;
})
report_stopped old new plan T report.Memory result stop is says wrote = subst (λ (r : Result Shown Stop). WroteText old new (state_text plan T) r) (sym (is ∙ ap Err says)) (record {
  told = wrote.grown;
  writing = memory_writing;
  faults = wrote.counted;
})

-- and one that was
pub report_written : (old new : SinkLog) (plan : Plan) (T : Table) (last : Shown) → WroteState old new plan T (Ok last) → WroteText {A = Shown} old new (state_text plan T) (Ok last)
report_written old new plan T last wrote = record { told = wrote.grown.1; writing = tt; faults = wrote.counted }

-- a text that was not written whole, as a part of another kind
pub text_err : {A B : Type 0} (old new : SinkLog) (text : List ℕ) (stop : Stop) (result : Result B Stop) → result ≡ Err stop → WroteText {A = A} old new text (Err stop) → WroteText {A = B} old new text result
text_err {B = B} old new text stop result is wrote = subst (λ (r : Result B Stop). WroteText {A = B} old new text r) (sym is) (record {
  told = wrote.told;
  writing = wrote.writing;
  faults = wrote.faults;
})

-- a text that was not written whole is not written with another behind it
pub text_stopped : {A B : Type 0} (old new : SinkLog) (text more : List ℕ) (stop : Stop) (result : Result B Stop) → result ≡ Err stop → WroteText {A = A} old new text (Err stop) →
    WroteText {A = B} old new (text ++ more) result
text_stopped {B = B} old new text more stop result is wrote = subst (λ (r : Result B Stop). WroteText {A = B} old new (text ++ more) r) (sym is) (record {
  told = by_cause (λ _. ⊥) (λ _. ⊥) (λ _. ⊥) (λ _. ⊥) (AppendsFront old.written new.written text) (AppendsFront old.written new.written (text ++ more))
      (AppendsFront old.written new.written text) (AppendsFront old.written new.written (text ++ more)) (λ stop no. no) (λ name no. no) longer longer stop wrote.told;
  writing = wrote.writing;
  faults = wrote.faults;
})
  where
    longer : AppendsFront old.written new.written text → AppendsFront old.written new.written (text ++ more)
    longer front = (front.0, front.1 ++ more, ap (λ (bytes : List ℕ). bytes ++ more) front.2 ∙ append_assoc front.0 front.1 more, front.3)

-- a text, and another behind it
pub text_then : {A B : Type 0} (old mid new : SinkLog) (text more : List ℕ) (value : A) (result : Result B Stop) → WroteText {A = A} old mid text (Ok value) →
    WroteText {A = B} mid new more result → WroteText {A = B} old new (text ++ more) result
text_then old mid new text more value (Ok next) first wrote = record {
  told = Appends-trans old.written mid.written new.written text more first.told wrote.told;
  writing = tt;
  faults = wrote.faults ∙ first.faults;
}
text_then old mid new text more value (Err stop) first wrote = record {
  told = by_cause (λ _. ⊥) (λ _. ⊥) (λ _. ⊥) (λ _. ⊥) (AppendsFront mid.written new.written more) (AppendsFront old.written new.written (text ++ more))
      (AppendsFront mid.written new.written more) (AppendsFront old.written new.written (text ++ more)) (λ stop no. no) (λ name no. no) behind behind stop wrote.told;
  writing = wrote.writing;
  faults = wrote.faults ∙ ap (λ (count : ℕ). counted_if (ends_with {A = Unit {0}} status.WriteFault (Err stop)) count) first.faults;
}
  where
    behind : AppendsFront mid.written new.written more → AppendsFront old.written new.written (text ++ more)
    behind front = (
      text ++ front.0,
      front.1,
      ap (λ (bytes : List ℕ). text ++ bytes) front.2 ∙ sym (append_assoc text front.0 front.1),
      Appends-trans old.written mid.written new.written text front.0 first.told front.3,
    )

-- Ends

-- how a part ends behind a text that was written
pub concludes_behind : (P P' : Output → Type 0) (Q Q' : List ℕ → Type 0) (a b c : Option (List ℕ)) (text : List ℕ) → Appends a b text → ((output : Output) → P output → P' (in_front text output)) →
    ((more : List ℕ) → Q more → Q' (text ++ more)) → Q' (text ++ []) → (result : Result Shown Stop) → Concludes P (λ _. ⊥) Q (Appends b c) result → Concludes P' (λ _. ⊥) Q' (Appends a c) result
concludes_behind P P' Q Q' a b c text first may comes alone (Ok last) shows = record {
  output = in_front text shows.output;
  may_be = may shows.output shows.may_be;
  ends_so = shows.ends_so;
  err_is = shows.err_is;
  out = Appends-trans a b c text shows.output.out first shows.out;
}
concludes_behind P P' Q Q' a b c text first may comes alone (Err stop) stops =
    by_cause (λ says. Shows P (Appends b c) says.ends says.err) (λ says. Shows P' (Appends a c) says.ends says.err) (λ name. ⊥ × Appends b c []) (λ name. ⊥ × Appends a c [])
    (Fronted Q (Appends b c)) (Fronted Q' (Appends a c)) (Appends b c [] ⊎ Fronted Q (Appends b c)) (Appends a c [] ⊎ Fronted Q' (Appends a c))
    (λ stop shows. record {
      output = in_front text shows.output;
      may_be = may shows.output shows.may_be;
      ends_so = shows.ends_so;
      err_is = shows.err_is;
      out = Appends-trans a b c text shows.output.out first shows.out;
    })
    (λ name no. absurd no.0) behind
    (⊎_elim (λ (none : Appends b c []). inr (record {
      text = text ++ [];
      comes = alone;
      done = text ++ [];
      left = [];
      is_front = sym (append-nil (text ++ []));
      out = Appends-trans a b c text [] first none;
    })) (λ (front : Fronted Q (Appends b c)). inr (behind front))) stop stops
  where
    behind : Fronted Q (Appends b c) → Fronted Q' (Appends a c)
    behind front = record {
      text = text ++ front.text;
      comes = comes front.text front.comes;
      done = text ++ front.done;
      left = front.left;
      is_front = ap (λ (bytes : List ℕ). text ++ bytes) front.is_front ∙ sym (append_assoc text front.done front.left);
      out = Appends-trans a b c text front.done first front.out;
    }

-- a text that was written, or a front of it, ends the run
pub text_ends : (is_output : Output → Type 0) (comes_to comes_to_write : List ℕ → Type 0) (old new : SinkLog) (text : List ℕ) (last : Shown) → is_output (ended text last) → comes_to_write text →
    (result : Result Shown Stop) → WroteText old new text result → IfOk result (λ shown. shown ≡ last) → Concludes is_output comes_to comes_to_write (Appends old.written new.written) result
text_ends is_output comes_to comes_to_write old new text last may comes (Ok shown) wrote is = record {
  output = ended text last;
  may_be = may;
  ends_so = ap status_shown (sym is);
  err_is = ap line_shown (sym is);
  out = wrote.told;
}
text_ends is_output comes_to comes_to_write old new text last may comes (Err stop) wrote is =
    by_cause (λ _. ⊥) (λ says. Shows is_output (Appends old.written new.written) says.ends says.err) (λ _. ⊥) (λ name. comes_to name × Appends old.written new.written [])
    (AppendsFront old.written new.written text) (Fronted comes_to_write (Appends old.written new.written))
    (AppendsFront old.written new.written text) (Appends old.written new.written [] ⊎ Fronted comes_to_write (Appends old.written new.written))
    (λ stop no. absurd no) (λ name no. absurd no) front (λ appended. inr (front appended)) stop wrote.told
  where
    front : AppendsFront old.written new.written text → Fronted comes_to_write (Appends old.written new.written)
    front appended = record {
      text = text;
      comes = comes;
      done = appended.0;
      left = appended.1;
      is_front = appended.2;
      out = appended.3;
    }

-- a text that shows something, behind stages that made its value
pub text_behind : {A : Type 0} (outputs : A → Output → Type 0) (texts : A → List ℕ → Type 0) (value : A) (old new : SinkLog) (text : List ℕ) (last : Shown) → outputs value (ended text last) → texts value text →
    (result : Result Shown Stop) → WroteText old new text result → IfOk result (λ shown. shown ≡ last) → (visits : A → ℕ → Type 0) (evaluates : Bool) (before after : ℕ) →
    CountsBy (visits value) (status_of_end result) before after → (evaluates ≡ false → after ≡ before) → before ≤ after → WritesBehind outputs texts visits evaluates value old new before after result
text_behind outputs texts value old new text last may comes result wrote shows visits evaluates before after counts idle rises = record {
  whole = text_ends (outputs value) (λ _. ⊥) (texts value) old new text last may comes result wrote shows;
  writing = wrote.writing;
  write_faults = wrote.faults;
  counted = counts;
  unevaluated = idle;
  rises = rises;
}

-- what holds at any rate holds of an answer
pub on_ok : {A : Type 0} (P : Type 0) (result : Result A Stop) → P → OnOk result P
on_ok P (Ok value) holds = holds
on_ok P (Err stop) holds = tt

-- and what follows from that
pub ok_with : {A E P Q : Type 0} (result : Result A E) → (P → Q) → OnOk result P → OnOk result Q
ok_with (Ok value) so holds = so holds
ok_with (Err error) so holds = tt
