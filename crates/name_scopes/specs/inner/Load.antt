-- What a loader has built of the events that it was given, or the first fault among them.
use Rattle.std.specs.Prelude.{◌≡◌, ℕ, ◌+◌, ◌≤◌, List, [], ◌∷◌, ◌++◌, None, Some, option_map, Result, Ok, Err, sum_by}
use Rattle.pyx_core.specs.declared.event.Event.{Event}
use Rattle.pyx_core.specs.declared.event.Located.{Located}
use Rattle.pyx_core.specs.declared.fault.FeedError.{FeedError}
use Rattle.pyx_core.specs.declared.fault.FeedError.TheVariants as feed_error
use Rattle.pyx_core.specs.declared.mode.Mode.TheVariants.{Document}
use Rattle.pyx_core.specs.Nesting.{Nest, Place, after, bare, place_after, start}
use Rattle.pyx_core.specs.Reader.{ReaderState, Reads}
use Rattle.pyx_core.specs.Reading.{events_before_fault, events_of, fault_of}
use Rattle.doc_tree.specs.limits.TheConstants.{MAX_LIVE_TEXT_BYTES}
use Rattle.name_scopes.specs.declared.build.Loader.{Loader}
use Rattle.name_scopes.specs.declared.fault.LoadError.{LoadError}
use Rattle.name_scopes.specs.declared.fault.LoadError.TheVariants.{Fault, Memory}
use Rattle.name_scopes.specs.DocFaults.{Standing, begin, event_fault, fault_at, first_fault, line_fault, moved}
use Rattle.name_scopes.specs.inner.Build.{Loads, event_text}

-- an event was taken, or it is faulty in its line; want of memory comes at any time
abbrev pub TakesFound : List Event → Place → Standing → Located → Loader → Result (Unit {0}) LoadError → Type 0
TakesFound taken place standing found loader (Ok done) =
    (event_fault standing found.event ≡ None) × Loads (taken ++ found.event ∷ []) (after Document place found.event) (moved standing found.event) loader
TakesFound taken place standing found loader (Err (Fault fault)) = option_map (fault_at found.line) (event_fault standing found.event) ≡ Some fault
TakesFound taken place standing found loader (Err Memory) = Unit {0}

-- the first of these events were taken, and the others may come
pub record Going (events front back : List Located) (loader : Loader) : Type 0 where
  pub parts : events ≡ front ++ back
  pub place : Place
  pub standing : Standing
  pub loads : Loads (bare front) place standing loader
  pub so_far : first_fault begin events ≡ first_fault standing back
  pub nest : Nest Document place (bare back)
  pub place_is : place_after Document place (bare back) ≡ place_after Document start (bare events)
  pub all : sum_by event_text (bare front) + sum_by event_text (bare back) ≤ MAX_LIVE_TEXT_BYTES

-- these events come next
pub record AreDue (waiting : List Located) (loader : Loader) : Type 0 where
  pub events : List Located
  pub taken : List Located
  pub later : List Located
  pub going : Going events taken (waiting ++ later) loader

-- all bytes of a document but the rest were read, and the events that they complete were taken
pub record Stands (bytes rest : List ℕ) (reader : ReaderState) (loader : Loader) : Type 0 where
  pub fed : List ℕ
  pub taken : List Located
  pub later : List Located
  pub parts : bytes ≡ fed ++ rest
  pub reads : Reads reader Document fed taken
  pub none : reader.waiting ≡ []
  pub going : Going (events_before_fault Document bytes) taken later loader

-- all events of a document were taken, whose bytes have no fault
pub record HasTakenAll (bytes : List ℕ) (loader : Loader) : Type 0 where
  pub good : fault_of Document bytes ≡ None
  pub taken : List Located
  pub later : List Located
  pub all : taken ≡ events_of Document bytes
  pub going : Going (events_before_fault Document bytes) taken later loader

-- events were taken, so that these are in front, or the first fault of one was found; want of memory comes at any time
abbrev pub Enter : List Located → List Located → List Located → Loader → Result (Unit {0}) LoadError → Type 0
Enter events front back loader (Ok done) = Going events front back loader
Enter events front back loader (Err (Fault fault)) = first_fault begin events ≡ Some fault
Enter events front back loader (Err Memory) = Unit {0}

-- why a document isn't loaded whose text a reader refuses
abbrev pub line_error : FeedError → LoadError
line_error (feed_error.Fault fault) = Fault (line_fault fault)
line_error feed_error.Memory = Memory
