-- What a reader that was fed tells.
use Rattle.std.proofs.Common.{◌≡◌, ℕ, List, [], ◌∷◌, Option, None, Some, Result, Ok, Err, refl, sym, ◌∙◌, ap}
use Rattle.std.specs.declared.alloc.AllocError.{AllocError}
use Rattle.pyx_core.specs.declared.event.Located.{Located}
use Rattle.pyx_core.specs.declared.fault.FeedError.{FeedError}
use Rattle.pyx_core.specs.declared.fault.FeedError.TheVariants.{Fault, Memory}
use Rattle.pyx_core.specs.declared.fault.PyxFault.{PyxFault}
use Rattle.pyx_core.specs.declared.mode.Mode.{Mode}
use Rattle.pyx_core.specs.declared.cutting.Cutting.{Cutting}
use Rattle.pyx_core.specs.Before.{closed}
use Rattle.pyx_core.specs.inner.Cutting.{Keeps, Fed, Finished}
use Rattle.pyx_core.specs.Reader.{ReaderState, kept_after, Reads, Refuses, Feeds, Finishes}
use Rattle.pyx_core.specs.inner.ReaderFields.{state_of, kept_in, error_of, stops, answer_of}
use Rattle.pyx_core.specs.inner.ReadAll.{ReadsAll}
use Rattle.pyx_core.specs.Reading.{Judged, so_far, completed, fault_so_far, or_lacking, fault_of, events_unless, events_before_fault, sound, IfFault}
use Rattle.pyx_core.specs.Lines.{ended_lines, unended}
use Rattle.pyx_core.proofs.EndLemmas.{named_good}
use Rattle.pyx_core.proofs.JudgeLemmas.{judged_stopped}

-- what is kept is what follows from the bytes
kept_from : (lines : Cutting) (mode : Mode) (fed : List ℕ) (taken : List Located) → Keeps lines mode fed taken →
    kept_in lines ≡ kept_after mode (so_far mode fed).before (unended fed)
kept_from lines mode fed taken keeps =
    rw (
      keeps.good,
      keeps.stands.reads.mode_is,
      keeps.stands.reads.opened,
      keeps.stands.reads.item,
      keeps.stands.reads.told.begun_is,
      keeps.stands.count,
      keeps.stands.half_is,
    ) refl

pub reads_from : (lines : Cutting) (stopped : Option FeedError) (mode : Mode) (fed : List ℕ) (taken : List Located) →
    Keeps lines mode fed taken → stopped ≡ None → Reads (state_of lines stopped) mode fed taken
reads_from lines stopped mode fed taken keeps runs = record {
  good = ap (λ j. j.fault) keeps.good;
  events = keeps.stands.reads.told.completed ∙ sym (ap (λ j. closed mode j.before) keeps.good);
  runs = runs;
  keeps = kept_from lines mode fed taken keeps;
  few = keeps.few;
}

good_from : (found : Judged) → found.fault ≡ None → found ≡ sound found.before
good_from found is = ap (λ f. record { before = found.before; fault = f }) is

pub keeps_from : (lines : Cutting) (stopped : Option FeedError) (mode : Mode) (fed : List ℕ) (taken : List Located) →
    Reads (state_of lines stopped) mode fed taken → Keeps lines mode fed taken
keeps_from lines stopped mode fed taken reads = record {
  before = (so_far mode fed).before;
  good = good_from (so_far mode fed) reads.good;
  stands = record {
    reads = record {
      mode_is = ap (λ k. k.mode) reads.keeps;
      opened = ap (λ k. k.opened) reads.keeps;
      named = named_good mode [] (ended_lines fed) (so_far mode fed).before refl (good_from (so_far mode fed) reads.good);
      item = ap (λ k. k.has_item) reads.keeps;
      told = record { completed = reads.events; begun_is = ap (λ k. k.begun) reads.keeps };
    };
    count = ap (λ k. k.count) reads.keeps;
    half_is = ap (λ k. k.half) reads.keeps;
  };
  few = reads.few;
}

pub feeds : (lines : Cutting) (stopped : Option FeedError) (mode : Mode) (fed : List ℕ) (taken : List Located)
    (found : Result (Option PyxFault) AllocError) → Fed lines mode fed taken found → stopped ≡ stops None (error_of found) →
    Feeds (state_of lines stopped) mode fed taken (answer_of (error_of found))
feeds lines stopped mode fed taken (Ok None) told is = reads_from lines stopped mode fed taken told is
feeds lines stopped mode fed taken (Ok (Some fault)) told is = (told.0, record { stopped = is; events_are = told.1 })
feeds lines stopped mode fed taken (Err error) told is = record { stopped = is; front = told }

pub finishes : (lines : Cutting) (stopped : Option FeedError) (mode : Mode) (fed : List ℕ) (taken : List Located)
    (found : Result (Option PyxFault) AllocError) → Finished lines mode fed taken found → stopped ≡ stops None (error_of found) →
    Finishes (state_of lines stopped) mode fed taken (answer_of (error_of found))
finishes lines stopped mode fed taken (Ok None) told is =
    record { good = sym told.0; events = told.1 ∙ ap (events_unless mode fed) (sym told.0) }
finishes lines stopped mode fed taken (Ok (Some fault)) told is =
    (sym told.0, record { stopped = is; events_are = told.1 })
finishes lines stopped mode fed taken (Err error) told is = record { stopped = is; front = told }

-- a fault in the lines that have ended is that of the text, whatever follows
pub fault_stays : (mode : Mode) (bytes : List ℕ) (fault : PyxFault) → fault_so_far mode bytes ≡ Some fault →
    fault_of mode bytes ≡ Some fault
fault_stays mode bytes fault is =
    let all = judged_stopped mode (ended_lines bytes) (unended bytes ∷ []) [] fault is in
    ap (λ j. or_lacking mode j.before j.fault) all ∙ ap (or_lacking mode (so_far mode bytes).before) is

-- before a fault come the completed events
pub events_before : (mode : Mode) (bytes : List ℕ) (fault : PyxFault) → fault_of mode bytes ≡ Some fault →
    events_before_fault mode bytes ≡ completed mode bytes
events_before mode bytes fault is = ap (events_unless mode bytes) is

-- a whole text was fed, or refused in its lines
pub refused : (reader : ReaderState) (mode : Mode) (bytes : List ℕ) (error : FeedError) →
    Refuses reader (fault_so_far mode bytes) [] (completed mode bytes) error →
    IfFault (λ fault. (fault_of mode bytes ≡ Some fault) × (reader.waiting ≡ completed mode bytes)) error
refused reader mode bytes (Fault fault) told = (fault_stays mode bytes fault told.0, told.1.events_are)
refused reader mode bytes Memory told = tt

-- or at its end
pub read_all : (reader : ReaderState) (mode : Mode) (bytes : List ℕ) (result : Result (Unit {0}) FeedError) →
    Finishes reader mode bytes [] result → ReadsAll reader mode bytes result
read_all reader mode bytes (Ok x) told = (told.good, told.events)
read_all reader mode bytes (Err (Fault fault)) told =
    (told.0, told.1.events_are ∙ events_before mode bytes fault told.0)
read_all reader mode bytes (Err Memory) told = tt
