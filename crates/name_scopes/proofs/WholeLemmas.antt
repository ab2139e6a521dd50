-- All events of a document, one by one, and what the whole says.
use Rattle.std.proofs.Common.{◌≡◌, ℕ, ◌+◌, ◌≤◌, ◌&&◌, ◌==◌, List, [], ◌∷◌, ◌++◌, map, sum_by, Option, None, Some, refl, sym, ap, ap₂, ◌∙◌, subst, arith, append-nil}
use Rattle.std.specs.Prelude.{option_map, Ok, Err, if◌then◌else◌}
use Rattle.std.specs.Option.{option_or}
use Rattle.std.specs.List.{flat_map}
use Rattle.std.proofs.lemmas.List.{append_assoc, append_cancel_left, map-append}
use Rattle.std.proofs.lemmas.List.Sums.{sum_by-append, sum_by-cons}
use Rattle.pyx_core.specs.declared.event.Event.{Event}
use Rattle.pyx_core.specs.declared.event.Located.{Located}
use Rattle.pyx_core.specs.declared.fault.PyxFault.{PyxFault}
use Rattle.pyx_core.specs.declared.mode.Mode.TheVariants.{Document}
use Rattle.pyx_core.specs.Nesting.{Place, Nest, after, bare, place_after, start, EventsNest, IsEnd}
use Rattle.pyx_core.specs.Reader.{ReaderState, Reads}
use Rattle.pyx_core.specs.Reading.{events_of, events_unless, events_before_fault, fault_of}
use Rattle.doc_tree.specs.limits.TheConstants.{MAX_LIVE_TEXT_BYTES}
use Rattle.doc_tree.specs.Table.{Table, content_of}
use Rattle.doc_tree.specs.Lines.{Line, closing, closes, last_lines, lines, lines_at}
use Rattle.doc_tree.specs.Laws.{HasWaysUp, WellFormed}
use Rattle.doc_tree.specs.Scope.{Decl, scope_at}
use Rattle.name_scopes.specs.declared.build.Loader.{Loader}
use Rattle.name_scopes.specs.declared.fault.DocFault.{DocFault}
use Rattle.name_scopes.specs.declared.fault.LoadError.{LoadError}
use Rattle.name_scopes.specs.declared.fault.LoadError.TheVariants.{Fault, Memory}
use Rattle.name_scopes.specs.Scoping.{ContentInScope}
use Rattle.name_scopes.specs.ScopedTree.{Scoped, said_by, unscoped}
use Rattle.name_scopes.specs.DocFaults.{Standing, Refuses, begin, doc_fault, event_fault, fault_at, first_fault, line_fault, moved}
use Rattle.name_scopes.specs.inner.Build.{AreOpen, Builds, Comes, IsReady, Loads, event_text}
use Rattle.name_scopes.specs.inner.Load.{AreDue, Enter, Going, TakesFound}

pub going-first : (events : List Located) (loader : Loader) → Nest Document start (bare events) → sum_by event_text (bare events) ≤ MAX_LIVE_TEXT_BYTES → Loads [] start begin loader → Going events [] events loader
going-first events loader nest little loads = record {
  parts = refl;
  place = start;
  standing = begin;
  loads = loads;
  so_far = refl;
  nest = nest;
  place_is = refl;
  all = omega (arith, little);
}

module _ (events : List Located) (front rest : List Located) (found : Located) (loader : Loader) (going : Going events front (found ∷ rest) loader) where
  sums : sum_by event_text (bare (found ∷ rest)) ≡ event_text found.event + sum_by event_text (bare rest)
  sums = sum_by-cons event_text found.event (bare rest)

  pub going-comes : Comes (bare front) going.place found.event
  going-comes = record { fits = going.nest.0; little = omega (arith, going.all, sums) }

  pub going-ready : IsReady loader found.event
  going-ready = (bare front, (going.place, (going.standing, (going.loads, going-comes))))

  first-is : (o : Option DocFault) → option_map (fault_at found.line) (event_fault going.standing found.event) ≡ o →
      first_fault begin events ≡ option_or o (first_fault (moved going.standing found.event) rest)
  first-is o e = going.so_far ∙ ap (λ (x : Option DocFault). option_or x (first_fault (moved going.standing found.event) rest)) e

  bare-more : bare (front ++ found ∷ []) ≡ bare front ++ found.event ∷ []
  bare-more = map-append (λ (x : Located). x.event) front (found ∷ [])

  pub going-on : (next : Loader) → event_fault going.standing found.event ≡ None → Loads (bare front ++ found.event ∷ []) (after Document going.place found.event) (moved going.standing found.event) next →
      Going events (front ++ found ∷ []) rest next
  going-on next none loads = record {
    parts = going.parts ∙ sym (append_assoc front (found ∷ []) rest);
    place = after Document going.place found.event;
    standing = moved going.standing found.event;
    loads = subst (λ (l : List Event). Loads l (after Document going.place found.event) (moved going.standing found.event) next) (sym bare-more) loads;
    so_far = first-is None (ap (option_map (fault_at found.line)) none);
    nest = going.nest.1;
    place_is = going.place_is;
    all = omega (arith, going.all, sums, ap (sum_by event_text) bare-more, sum_by-append event_text (bare front) (found.event ∷ []), sum_by-cons event_text found.event []);
  }

  -- a refused event ends it all
  pub going-refused : (next : Loader) (error : LoadError) → TakesFound (bare front) going.place going.standing found next (Err error) → (taken later : List Located) → Enter events taken later next (Err error)
  going-refused next (Fault fault) faulty taken later = first-is (Some fault) faulty
  going-refused next Memory free taken later = tt

-- some of the events that waited were taken
pub record Taking (old : ReaderState) (before : Loader) (reader : ReaderState) (loader : Loader) : Type 0 where
  pub front : List Located
  pub parts : old.waiting ≡ front ++ reader.waiting
  pub reads : (fed : List ℕ) (taken : List Located) → Reads old Document fed taken → Reads reader Document fed (taken ++ front)
  pub goes : (events taken later : List Located) → Going events taken (old.waiting ++ later) before → Going events (taken ++ front) (reader.waiting ++ later) loader

pub taking-first : (reader : ReaderState) (loader : Loader) → Taking reader loader reader loader
taking-first reader loader = record {
  front = [];
  parts = refl;
  reads = λ fed taken reads. subst (Reads reader Document fed) (sym (append-nil taken)) reads;
  goes = λ events taken later going. subst (λ (l : List Located). Going events l (reader.waiting ++ later) loader) (sym (append-nil taken)) going;
}

module _ (old : ReaderState) (before : Loader) (reader next : ReaderState) (loader : Loader) (found : Located) (taking : Taking old before reader loader) (is : reader.waiting ≡ found ∷ next.waiting) where
  -- the next one is faced
  pub taking-faces : (events taken later : List Located) → Going events taken (old.waiting ++ later) before → Going events (taken ++ taking.front) (found ∷ (next.waiting ++ later)) loader
  taking-faces events taken later going =
      subst (λ (l : List Located). Going events (taken ++ taking.front) (l ++ later) loader) is (taking.goes events taken later going)

  pub taking-ready : AreDue old.waiting before → IsReady loader found.event
  taking-ready due = going-ready due.events (due.taken ++ taking.front) (next.waiting ++ due.later) found loader (taking-faces due.events due.taken due.later due.going)

  pub taking-on : (grown : Loader) →
      ((taken : List Event) (place : Place) (standing : Standing) → Loads taken place standing loader → Comes taken place found.event → TakesFound taken place standing found grown (Ok tt)) →
      ((fed : List ℕ) (taken : List Located) → Reads reader Document fed taken → Reads next Document fed (taken ++ found ∷ [])) →
      Taking old before next grown
  taking-on grown took reads = record {
    front = taking.front ++ found ∷ [];
    parts = taking.parts ∙ (ap (λ (l : List Located). taking.front ++ l) is ∙ sym (append_assoc taking.front (found ∷ []) next.waiting));
    reads = λ fed taken had. subst (Reads next Document fed) (append_assoc taken taking.front (found ∷ [])) (reads fed (taken ++ taking.front) (taking.reads fed taken had));
    goes = on;
  }
    where
      on : (events taken later : List Located) → Going events taken (old.waiting ++ later) before → Going events (taken ++ (taking.front ++ found ∷ [])) (next.waiting ++ later) grown
      on events taken later going =
          let here = taking-faces events taken later going in
          let done = took (bare (taken ++ taking.front)) here.place here.standing here.loads (going-comes events (taken ++ taking.front) (next.waiting ++ later) found loader here) in
          subst (λ (l : List Located). Going events l (next.waiting ++ later) grown) (append_assoc taken taking.front (found ∷ []))
          (going-on events (taken ++ taking.front) (next.waiting ++ later) found loader here grown done.0 done.1)

  pub taking-refused : (grown : Loader) (error : LoadError) →
      ((taken : List Event) (place : Place) (standing : Standing) → Loads taken place standing loader → Comes taken place found.event → TakesFound taken place standing found grown (Err error)) →
      (events taken later front : List Located) → Going events taken (old.waiting ++ later) before → Enter events front later grown (Err error)
  taking-refused grown error took events taken later front going =
      let here = taking-faces events taken later going in
      going-refused events (taken ++ taking.front) (next.waiting ++ later) found loader here grown error
      (took (bare (taken ++ taking.front)) here.place here.standing here.loads (going-comes events (taken ++ taking.front) (next.waiting ++ later) found loader here)) front later

-- all that waited were taken
pub taking-front : (old : ReaderState) (before : Loader) (reader : ReaderState) (loader : Loader) → (taking : Taking old before reader loader) → reader.waiting ≡ [] → taking.front ≡ old.waiting
taking-front old before reader loader taking none = sym (taking.parts ∙ (ap (λ (l : List Located). taking.front ++ l) none ∙ append-nil taking.front))

pub taking-all : (old : ReaderState) (before : Loader) (reader : ReaderState) (loader : Loader) → Taking old before reader loader → reader.waiting ≡ [] →
    (events taken later : List Located) → Going events taken (old.waiting ++ later) before → Going events (taken ++ old.waiting) later loader
taking-all old before reader loader taking none events taken later going =
    subst (λ (l : List Located). Going events (taken ++ l) later loader) (taking-front old before reader loader taking none)
    (subst (λ (l : List Located). Going events (taken ++ taking.front) (l ++ later) loader) none (taking.goes events taken later going))

pub taking-reads : (old : ReaderState) (before : Loader) (reader : ReaderState) (loader : Loader) → Taking old before reader loader → reader.waiting ≡ [] →
    (fed : List ℕ) (taken : List Located) → Reads old Document fed taken → Reads reader Document fed (taken ++ old.waiting)
taking-reads old before reader loader taking none fed taken had =
    subst (λ (l : List Located). Reads reader Document fed (taken ++ l)) (taking-front old before reader loader taking none) (taking.reads fed taken had)

-- no event is left
pub going-none : (events front later : List Located) (loader : Loader) → Going events front later loader → events ≡ front → later ≡ []
going-none events front later loader going is = append_cancel_left front later [] (sym going.parts ∙ (is ∙ sym (append-nil front)))

pub going-good : (events later : List Located) (front : List Located) (loader : Loader) → Going events front later loader → events ≡ front → first_fault begin events ≡ None
going-good events later front loader going is = going.so_far ∙ ap (first_fault going.standing) (going-none events front later loader going is)

pub going-all : (events front later : List Located) (loader : Loader) → Going events front later loader → events ≡ front →
    (standing : Standing) × Builds [] (bare events) (place_after Document start (bare events)) standing loader.tree.nodes loader.place
going-all events front later loader going is =
    let none = going-none events front later loader going is in
    let place : going.place ≡ place_after Document start (bare events) = sym (ap (λ (l : List Located). place_after Document going.place (bare l)) none) ∙ going.place_is in (
      going.standing,
      subst (λ (p : Place). Builds [] (bare events) p going.standing loader.tree.nodes loader.place) place
          (subst (λ (l : List Located). Builds [] (bare l) going.place going.standing loader.tree.nodes loader.place) (sym is) going.loads.builds),
    )

-- the whole document

pub front-nests : (bytes : List ℕ) → EventsNest → Nest Document start (bare (events_before_fault Document bytes))
front-nests bytes laws = by (fault_of Document bytes) refl
  where
    by : (o : Option PyxFault) → fault_of Document bytes ≡ o → Nest Document start (bare (events_unless Document bytes o))
    by None e = (laws.in_all Document bytes e).0
    by (Some fault) e = laws.so_far Document bytes

-- the answer to a fault of an event, and to one of a line
pub refused-by : (bytes : List ℕ) (taken later : List Located) (loader : Loader) (error : LoadError) → Enter (events_before_fault Document bytes) taken later loader (Err error) → Refuses (doc_fault bytes) error
refused-by bytes taken later loader (Fault fault) is = ap (λ (o : Option DocFault). option_or o (option_map line_fault (fault_of Document bytes))) is
refused-by bytes taken later loader Memory is = tt

pub doc-fault-is : (bytes : List ℕ) (o : Option PyxFault) → first_fault begin (events_before_fault Document bytes) ≡ None → fault_of Document bytes ≡ o → doc_fault bytes ≡ option_map line_fault o
doc-fault-is bytes o none is = ap₂ (λ (a : Option DocFault) (b : Option PyxFault). option_or a (option_map line_fault b)) none is

-- behind the last end the lines are those that the events say
pub closed-lines : (around : List Decl) (events : List Event) (place : Place) (standing : Standing) (T : Table) (n : ℕ) → IsEnd place → HasWaysUp T → Builds around events place standing T n → map unscoped (lines T) ≡ flat_map said_by events
closed-lines around events place standing T n end ways builds =
    let way : AreOpen T [] standing.scopes n = subst (λ (names : List (List ℕ)). AreOpen T names standing.scopes n) end.closed builds.tells.way in
    let no_end : closing T n ≡ [] = by standing.scopes way in
    ap (map unscoped) (builds.tells.lines_are ∙ (ap (λ (l : List Line). builds.told ++ l) no_end ∙ append-nil builds.told)) ∙ builds.told_is
  where
    by : (scopes : List (List Decl)) → AreOpen T [] scopes n → closing T n ≡ []
    by [] way = ap (flat_map (closes T)) (ap (λ (ms : List ℕ). n ∷ ms) (ways.no_ancestors n way.no_parent)) ∙ (append-nil (closes T n) ∙ ap (lines_at last_lines) way.content)
    by (decls ∷ scopes) way = absurd way

pub whole : (events : List Event) (place : Place) (standing : Standing) (T : Table) (n : ℕ) → IsEnd place → HasWaysUp T → WellFormed T → Builds [] events place standing T n → Scoped events T
whole events place standing T n end ways formed builds = record {
  lines_are = closed-lines [] events place standing T n end ways builds;
  in_scope = λ m. subst (λ (s : List Decl). ContentInScope s (content_of T m)) (append-nil (scope_at T m)) (builds.scoped m);
  numbered = builds.tells.numbered_so;
  all_live = builds.tells.all_live;
  well_formed = formed;
  document = ap₂ (λ (a b : ℕ). (a == 1) && (b == 0)) (builds.tells.top.elements ∙ ap (λ b. if b then 1 else 0) end.begun) builds.tells.top.no_text;
}

pub loaded : (bytes : List ℕ) (front later : List Located) (loader : Loader) → EventsNest → fault_of Document bytes ≡ None → HasWaysUp loader.tree.nodes → WellFormed loader.tree.nodes →
    Going (events_before_fault Document bytes) front later loader → front ≡ events_of Document bytes → Scoped (bare (events_of Document bytes)) loader.tree.nodes
loaded bytes front later loader laws none ways formed going is =
    let all : events_before_fault Document bytes ≡ events_of Document bytes = ap (events_unless Document bytes) none in
    let here = subst (λ (events : List Located). (standing : Standing) × Builds [] (bare events) (place_after Document start (bare events)) standing loader.tree.nodes loader.place) all
    (going-all (events_before_fault Document bytes) front later loader going (all ∙ sym is)) in
    whole (bare (events_of Document bytes)) (place_after Document start (bare (events_of Document bytes))) here.0 loader.tree.nodes loader.place (laws.in_all Document bytes none).1 ways formed here.1
