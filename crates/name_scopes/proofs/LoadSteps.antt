-- A document that is read piece by piece: its events so far are in the tree.
use Rattle.std.proofs.Common.{◌≡◌, ◌≤◌, ℕ, List, [], ◌∷◌, ◌++◌, ◌+◌, length, Option, None, Some, Result, Ok, Err, refl, sym, ap, ◌∙◌, subst, append-nil, length-append, ◌<◌, arith}
use Rattle.std.proofs.lemmas.List.{append_assoc, append_cancel_left}
use Rattle.pyx_core.specs.declared.event.Located.{Located}
use Rattle.pyx_core.specs.declared.fault.FeedError.{FeedError}
use Rattle.pyx_core.specs.declared.fault.FeedError.TheVariants as feed_error
use Rattle.pyx_core.specs.declared.fault.PyxFault.{PyxFault}
use Rattle.pyx_core.specs.declared.mode.Mode.TheVariants.{Document}
use Rattle.pyx_core.specs.Fronts.{IsFront}
use Rattle.pyx_core.specs.Nesting.{EventsNest, bare, start}
use Rattle.pyx_core.specs.Reader.{ReaderState, Reads, Feeds, Finishes}
use Rattle.pyx_core.specs.Reading.{completed, events_before_fault, events_of, events_unless, fault_of, CompletedEventsStay, FaultsStay}
use Rattle.doc_tree.specs.limits.TheConstants.{MAX_LIVE_TEXT_BYTES}
use Rattle.doc_tree.specs.Laws.{HasWaysUp, WellFormed}
use Rattle.doc_tree.specs.Table.{Table}
use Rattle.name_scopes.specs.declared.build.Loader.{Loader}
use Rattle.name_scopes.specs.ScopedTree.{Scoped}
use Rattle.name_scopes.specs.DocFaults.{Refuses, begin, doc_fault, line_fault}
use Rattle.name_scopes.specs.inner.Build.{Loads}
use Rattle.name_scopes.specs.inner.Load.{AreDue, Going, HasTakenAll, Stands, line_error}
use Rattle.name_scopes.proofs.TextBound.{front-text}
use Rattle.name_scopes.proofs.WholeLemmas.{doc-fault-is, front-nests, going-first, going-good, loaded}

-- these events were taken, and those that wait come next
pub record Waits (bytes : List ℕ) (taken waiting : List Located) (loader : Loader) : Type 0 where
  pub later : List Located
  pub going : Going (events_before_fault Document bytes) taken (waiting ++ later) loader

pub waits-due : (bytes : List ℕ) (taken waiting : List Located) (loader : Loader) → Waits bytes taken waiting loader → AreDue waiting loader
waits-due bytes taken waiting loader waits = record {
  events = events_before_fault Document bytes;
  taken = taken;
  later = waits.later;
  going = waits.going;
}

-- nothing was read yet
pub stands-first : (bytes : List ℕ) (reader : ReaderState) (loader : Loader) → EventsNest → length bytes ≤ MAX_LIVE_TEXT_BYTES → Reads reader Document [] [] → Loads [] start begin loader →
    Stands bytes bytes reader loader
stands-first bytes reader loader laws short reads loads = record {
  fed = [];
  taken = [];
  later = events_before_fault Document bytes;
  parts = refl;
  reads = reads;
  none = reads.events;
  going = going-first (events_before_fault Document bytes) loader (front-nests bytes laws) (omega (arith, front-text Document bytes, short)) loads;
}

-- the events of a text begin with those that a front of it completes
begins-with : CompletedEventsStay → (fed rest : List ℕ) → IsFront (completed Document fed) (events_before_fault Document (fed ++ rest))
begins-with stay fed rest = by (fault_of Document (fed ++ rest)) refl
  where
    by : (o : Option PyxFault) → fault_of Document (fed ++ rest) ≡ o → IsFront (completed Document fed) (events_unless Document (fed ++ rest) o)
    by None e = let more = (stay Document fed rest).in_all e in record { later = more.0; is = more.1 }
    by (Some fault) e = let more = (stay Document fed rest).so_far in record { later = more.0; is = more.1 }

front-front : (a b c : List Located) → IsFront a b → IsFront b c → IsFront a c
front-front a b c first second = record {
  later = first.later ++ second.later;
  is = second.is ∙ (ap (λ (l : List Located). l ++ second.later) first.is ∙ append_assoc a first.later second.later);
}

front-same : (a b : List Located) → a ≡ b → IsFront a b
front-same a b same = record { later = []; is = sym same ∙ sym (append-nil a) }

-- events that come next wait in front of the others
waits-front : (bytes : List ℕ) (taken waiting later : List Located) (loader : Loader) → Going (events_before_fault Document bytes) taken later loader →
    IsFront (taken ++ waiting) (events_before_fault Document bytes) → Waits bytes taken waiting loader
waits-front bytes taken waiting later loader going front =
    let is : later ≡ waiting ++ front.later = append_cancel_left taken later (waiting ++ front.later) (sym going.parts ∙ (front.is ∙ append_assoc taken waiting front.later)) in
    record { later = front.later; going = subst (λ (l : List Located). Going (events_before_fault Document bytes) taken l loader) is going }

fed-front : (reader : ReaderState) (fed : List ℕ) (taken : List Located) (result : Result (Unit {0}) FeedError) → Feeds reader Document fed taken result →
    IsFront (taken ++ reader.waiting) (completed Document fed)
fed-front reader fed taken (Ok done) told = front-same (taken ++ reader.waiting) (completed Document fed) told.events
fed-front reader fed taken (Err (feed_error.Fault fault)) told = front-same (taken ++ reader.waiting) (completed Document fed) told.1.events_are
fed-front reader fed taken (Err feed_error.Memory) told = told.front

-- the events that a piece completes come next
pub waits-fed : (bytes piece rest : List ℕ) (reader next : ReaderState) (loader : Loader) (result : Result (Unit {0}) FeedError) → CompletedEventsStay → (stands : Stands bytes (piece ++ rest) reader loader) →
    Feeds next Document (stands.fed ++ piece) stands.taken result → Waits bytes stands.taken next.waiting loader
waits-fed bytes piece rest reader next loader result stay stands told =
    let parts : bytes ≡ (stands.fed ++ piece) ++ rest = stands.parts ∙ sym (append_assoc stands.fed piece rest) in
    let whole = subst (λ (b : List ℕ). IsFront (completed Document (stands.fed ++ piece)) (events_before_fault Document b)) (sym parts) (begins-with stay (stands.fed ++ piece) rest) in
    waits-front bytes stands.taken next.waiting stands.later loader stands.going
    (front-front (stands.taken ++ next.waiting) (completed Document (stands.fed ++ piece)) (events_before_fault Document bytes) (fed-front next (stands.fed ++ piece) stands.taken result told) whole)

-- they were taken
pub stands-on : (bytes piece rest : List ℕ) (reader fed next : ReaderState) (loader grown : Loader) → (stands : Stands bytes (piece ++ rest) reader loader) → (waits : Waits bytes stands.taken fed.waiting loader) →
    Reads next Document (stands.fed ++ piece) (stands.taken ++ fed.waiting) → next.waiting ≡ [] → Going (events_before_fault Document bytes) (stands.taken ++ fed.waiting) waits.later grown →
    Stands bytes rest next grown
stands-on bytes piece rest reader fed next loader grown stands waits reads none going = record {
  fed = stands.fed ++ piece;
  taken = stands.taken ++ fed.waiting;
  later = waits.later;
  parts = stands.parts ∙ sym (append_assoc stands.fed piece rest);
  reads = reads;
  none = none;
  going = going;
}

-- a text whose events before its first fault have none
pub refused-line : (bytes : List ℕ) (front later : List Located) (loader : Loader) (fault : PyxFault) → Going (events_before_fault Document bytes) front later loader → events_before_fault Document bytes ≡ front →
    fault_of Document bytes ≡ Some fault → doc_fault bytes ≡ Some (line_fault fault)
refused-line bytes front later loader fault going all is = doc-fault-is bytes (Some fault) (going-good (events_before_fault Document bytes) later front loader going all) is

-- a line of the piece is refused
pub fed-refused : (bytes piece rest : List ℕ) (reader next : ReaderState) (loader grown : Loader) (error : FeedError) → FaultsStay → (stands : Stands bytes (piece ++ rest) reader loader) → (waits : Waits bytes stands.taken next.waiting loader) →
    Feeds next Document (stands.fed ++ piece) stands.taken (Err error) → Going (events_before_fault Document bytes) (stands.taken ++ next.waiting) waits.later grown →
    Refuses (doc_fault bytes) (line_error error)
fed-refused bytes piece rest reader next loader grown feed_error.Memory stay stands waits told going = tt
fed-refused bytes piece rest reader next loader grown (feed_error.Fault fault) stay stands waits told going =
    let parts : bytes ≡ (stands.fed ++ piece) ++ rest = stands.parts ∙ sym (append_assoc stands.fed piece rest) in
    let stays = stay Document (stands.fed ++ piece) rest fault told.0 in
    let is : fault_of Document bytes ≡ Some fault = ap (fault_of Document) parts ∙ stays.in_all in
    let all : events_before_fault Document bytes ≡ stands.taken ++ next.waiting = ap (events_unless Document bytes) is ∙ (ap (completed Document) parts ∙ (stays.events ∙ sym told.1.events_are)) in
    refused-line bytes (stands.taken ++ next.waiting) waits.later grown fault going all is

-- the end of the text

ended-front : (bytes : List ℕ) (reader : ReaderState) (taken : List Located) (result : Result (Unit {0}) FeedError) → Finishes reader Document bytes taken result →
    IsFront (taken ++ reader.waiting) (events_before_fault Document bytes)
ended-front bytes reader taken (Ok done) told = front-same (taken ++ reader.waiting) (events_before_fault Document bytes) (told.events ∙ sym (ap (events_unless Document bytes) told.good))
ended-front bytes reader taken (Err (feed_error.Fault fault)) told = front-same (taken ++ reader.waiting) (events_before_fault Document bytes) told.1.events_are
ended-front bytes reader taken (Err feed_error.Memory) told = told.front

-- all bytes were read
pub finishes-all : (bytes : List ℕ) (reader next : ReaderState) (loader : Loader) (result : Result (Unit {0}) FeedError) → (stands : Stands bytes [] reader loader) → Finishes next Document stands.fed stands.taken result →
    Finishes next Document bytes stands.taken result
finishes-all bytes reader next loader result stands told = subst (λ (b : List ℕ). Finishes next Document b stands.taken result) (sym (stands.parts ∙ append-nil stands.fed)) told

pub waits-ended : (bytes : List ℕ) (reader next : ReaderState) (loader : Loader) (result : Result (Unit {0}) FeedError) → (stands : Stands bytes [] reader loader) → Finishes next Document bytes stands.taken result →
    Waits bytes stands.taken next.waiting loader
waits-ended bytes reader next loader result stands told = waits-front bytes stands.taken next.waiting stands.later loader stands.going (ended-front bytes next stands.taken result told)

pub ended-refused : (bytes : List ℕ) (reader next : ReaderState) (loader grown : Loader) (error : FeedError) → (stands : Stands bytes [] reader loader) → (waits : Waits bytes stands.taken next.waiting loader) →
    Finishes next Document bytes stands.taken (Err error) → Going (events_before_fault Document bytes) (stands.taken ++ next.waiting) waits.later grown → Refuses (doc_fault bytes) (line_error error)
ended-refused bytes reader next loader grown feed_error.Memory stands waits told going = tt
ended-refused bytes reader next loader grown (feed_error.Fault fault) stands waits told going =
    refused-line bytes (stands.taken ++ next.waiting) waits.later grown fault going (sym told.1.events_are) told.0

pub ended-all : (bytes : List ℕ) (next : ReaderState) (taken later : List Located) (grown : Loader) → Finishes next Document bytes taken (Ok tt) → Going (events_before_fault Document bytes) (taken ++ next.waiting) later grown →
    HasTakenAll bytes grown
ended-all bytes next taken later grown told going = record { good = told.good; taken = taken ++ next.waiting; later = later; all = told.events; going = going }

-- a document whose events were all taken has no fault, and the tree is that of its events
pub taken-good : (bytes : List ℕ) (loader : Loader) → HasTakenAll bytes loader → doc_fault bytes ≡ None
taken-good bytes loader has =
    let all : events_before_fault Document bytes ≡ has.taken = ap (events_unless Document bytes) has.good ∙ sym has.all in
    doc-fault-is bytes None (going-good (events_before_fault Document bytes) has.later has.taken loader has.going all) has.good

pub taken-loaded : (bytes : List ℕ) (loader : Loader) (T : Table) → EventsNest → T ≡ loader.tree.nodes → HasWaysUp T → WellFormed T → HasTakenAll bytes loader → Scoped (bare (events_of Document bytes)) T
taken-loaded bytes loader T laws is ways formed has =
    subst (Scoped (bare (events_of Document bytes))) (sym is)
    (loaded bytes has.taken has.later loader laws has.good (subst HasWaysUp is ways) (subst WellFormed is formed) has.going has.all)

-- fewer bytes than 2^64 - 1 were read
pub few-fed : (bytes piece rest : List ℕ) (reader : ReaderState) (loader : Loader) → length bytes ≤ MAX_LIVE_TEXT_BYTES → (stands : Stands bytes (piece ++ rest) reader loader) → length (stands.fed ++ piece) < 18446744073709551615
few-fed bytes piece rest reader loader short stands =
    fewer (length stands.fed) (length piece) (length rest) (length bytes) (length (stands.fed ++ piece)) short
    (ap length stands.parts ∙ (length-append stands.fed (piece ++ rest) ∙ ap (λ (k : ℕ). length stands.fed + k) (length-append piece rest))) (length-append stands.fed piece)
  where
    fewer : (f p r n k : ℕ) → n ≤ MAX_LIVE_TEXT_BYTES → n ≡ f + (p + r) → k ≡ f + p → k < 18446744073709551615
    fewer f p r n k short parts is = omega arith

-- no byte is left
pub stands-end : (bytes rest : List ℕ) (reader : ReaderState) (loader : Loader) → length rest ≡ 0 → Stands bytes rest reader loader → Stands bytes [] reader loader
stands-end bytes [] reader loader none stands = stands
stands-end bytes (b ∷ rest) reader loader none stands = absurd (omega (arith, none))
