-- Parts of a run one after the other.
use Rattle.std.proofs.Common.{◌∙◌, ◌≡◌, ℕ, Bool, true, false, List, [], ◌∷◌, ◌++◌, append_assoc, append-nil, IfErr, IfSome, MatchResult, Option, None, Some, Result, Ok, Err, refl, ap, sym, subst}
use Rattle.sch_io.specs.Files.{Files}
use Rattle.sch_io.specs.ReadThrough.{Extent, ReadsThrough, all_files, all_but_last, all_or_but_last}
use Rattle.sch_io.specs.ShelfState.{ShelfState}
use Rattle.sch_io.proofs.ReadThrough.{nothing_through, one_of_both, through_then}
use Rattle.sch_stops.specs.Output.{Output}
use Rattle.sch_loading.specs.Stages.{Came, Is, Stage, Then, goes, halts, unread}
use Rattle.sch_loading.specs.Reads.{EndsAs, IsLastOf, Named, Opens, OpensAll, Reads, ReadsUpTo, extent_of, extent_of_stop, file, schema_file}
use Rattle.sch_stops.specs.Stops.{ByCause, Names, counted_if, ends_with, is_status, name_in, status_of, stopped_by}
use Rattle.sch_loading.specs.inner.Refusing.{AllowsAll, IsInner, IsInside}
use Rattle.sch_words.specs.declared.status.Status.TheVariants as status
use Rattle.sch_stops.specs.declared.stop.Stop.{Stop}
use Rattle.sch_stops.specs.declared.stop.Stop.TheVariants.{Usage, SchemaRefused, DocumentRefused, ScriptRefused, Missing, ReadFault, WriteFault, Memory}
use Rattle.sch_loading.proofs.StageLemmas.{goes-first, goes-on, halts-first, unread-first}

-- what holds of a stop by its cause holds in weaker form
pub by_cause : (D D' : Output → Type 0) (R R' : List ℕ → Type 0) (W W' M M' : Type 0) → ((stop : Stop) → D (stopped_by stop) → D' (stopped_by stop)) →
    ((name : List ℕ) → R name → R' name) → (W → W') → (M → M') → (stop : Stop) → ByCause D R W M stop → ByCause D' R' W' M' stop
by_cause D D' R R' W W' M M' decided failed unwritten memory (ReadFault name) holds = failed name holds
by_cause D D' R R' W W' M M' decided failed unwritten memory WriteFault holds = unwritten holds
by_cause D D' R R' W W' M M' decided failed unwritten memory Memory holds = memory holds
by_cause D D' R R' W W' M M' decided failed unwritten memory stop holds = decided stop holds

-- Files that are opened one after another

-- all of some, then all of more
pub all-then : (some more : List Named) (before after : List (List ℕ)) → OpensAll some before → OpensAll more after → OpensAll (some ++ more) (before ++ after)
all-then [] more before after first next = subst (λ (o : List (List ℕ)). OpensAll more o) (ap (λ (b : List (List ℕ)). b ++ after) (sym first)) next
all-then (file name ∷ some) more before after first next =
    (first.0 ++ after, all-then some more first.0 after first.1 next, ap (λ (b : List (List ℕ)). b ++ after) first.2)
all-then (schema_file name ∷ some) more before after first next = (
  first.0,
  first.1 ++ after,
  all-then some more first.1 after first.2 next,
  ap (λ (b : List (List ℕ)). b ++ after) first.3 ∙ ap (λ (b : List (List ℕ)). name ∷ b) (append_assoc first.0 first.1 after),
)

-- all of some, then the first of more
pub all-then-first : (some more : List Named) (before after : List (List ℕ)) → OpensAll some before → Opens more after → Opens (some ++ more) (before ++ after)
all-then-first some more before after first next =
    (some ++ next.0, next.1, ap (λ (m : List Named). some ++ m) next.2 ∙ sym (append_assoc some next.0 next.1), all-then some next.0 before after first next.3)

-- the first of some are the first of these and more
pub first-then : (some more : List Named) (opened : List (List ℕ)) → Opens some opened → Opens (some ++ more) opened
first-then some more opened first =
    (first.0, first.1 ++ more, ap (λ (s : List Named). s ++ more) first.2 ∙ append_assoc first.0 first.1 more, first.3)

-- all are the first of all
pub all-first : (named : List Named) (opened : List (List ℕ)) → OpensAll named opened → Opens named opened
all-first named opened all = (named, [], sym (append-nil named), all)

pub none-first : (named : List Named) → Opens named []
none-first named = ([], named, refl, refl)

-- Ends

-- a part that stops, as the first of two
pub ends_first : {A B : Type 0} (first : Stage A) (next : A → Stage B) (opened : List (List ℕ)) (stop : Stop) →
    ByCause (λ output. first opened (halts output)) (λ name. first opened (unread name)) ⊥ (Unit {0}) stop →
    ByCause (λ output. Then first next opened (halts output)) (λ name. Then first next opened (unread name)) ⊥ (Unit {0}) stop
ends_first first next opened = by_cause (λ output. first opened (halts output)) (λ output. Then first next opened (halts output))
    (λ name. first opened (unread name)) (λ name. Then first next opened (unread name)) ⊥ ⊥ (Unit {0}) (Unit {0})
    (λ stop so. halts-first first next opened (stopped_by stop) so) (λ name failed. unread-first first next opened name failed) (λ no. no) (λ m. m)

-- and as the second
pub ends_second : {A B D : Type 0} (first : Stage A) (next : A → Stage B) (before after : List (List ℕ)) (value : A) (later_of : D → B) → first before (goes value) → (result : Result D Stop) →
    EndsAs (next value after) later_of result → EndsAs (Then first next (before ++ after)) later_of result
ends_second first next before after value later_of goes_on (Ok later) shows = goes-first first next before after value (goes (later_of later)) goes_on shows
ends_second first next before after value later_of goes_on (Err stop) shows = by_cause (λ output. next value after (halts output)) (λ output. Then first next (before ++ after) (halts output))
    (λ name. next value after (unread name)) (λ name. Then first next (before ++ after) (unread name)) ⊥ ⊥ (Unit {0}) (Unit {0})
    (λ stop on. goes-first first next before after value (halts (stopped_by stop)) goes_on on) (λ name on. goes-first first next before after value (unread name) goes_on on) (λ no. no) (λ m. m) stop shows

-- a name that is told is such a one in weaker form
pub names_in : {A : Type 0} (P Q : List ℕ → Type 0) → ((name : List ℕ) → P name → Q name) → (result : Result A Stop) → Names P result → Names Q result
names_in P Q weaker (Ok value) named = tt
names_in P Q weaker (Err stop) named = if_some (name_in stop) named
  where
    if_some : (told : Option (List ℕ)) → IfSome told P → IfSome told Q
    if_some None is = tt
    if_some (Some name) is = weaker name is

-- what two parts open, in whole or in part
opens-both : {D : Type 0} (some more : List Named) (before after : List (List ℕ)) → OpensAll some before → (result : Result D Stop) →
    MatchResult result (λ _. OpensAll more after) (λ _. Opens more after) → MatchResult result (λ _. OpensAll (some ++ more) (before ++ after)) (λ _. Opens (some ++ more) (before ++ after))
opens-both some more before after all (Ok later) next = all-then some more before after all next
opens-both some more before after all (Err stop) next = all-then-first some more before after all next

-- two parts one after the other
pub reads_then : {A B C D : Type 0} (old mid new : ShelfState) (some more : List Named) (first : Files → Stage A) (next : Files → A → Stage B)
    (value_of : C → A) (later_of : D → B) (value : C) (result : Result D Stop) →
    Reads old mid some first value_of (Ok value) → Reads mid new more (λ files. next files (value_of value)) later_of result →
    Reads old new (some ++ more) (λ files. Then (first files) (next files)) later_of result
reads_then old mid new some more first next value_of later_of value result one two = record {
  held = two.held ∙ one.held;
  opened = one.opened ++ two.opened;
  noted = two.noted ∙ ap (λ (o : List (List ℕ)). o ++ two.opened) one.noted ∙ append_assoc old.opened one.opened two.opened;
  which = opens-both some more one.opened two.opened one.which result two.which;
  came = λ files is. ends_second (first files) (next files) one.opened two.opened (value_of value) later_of (one.came files is) result (two.came files (one.held ∙ is));
  faults = two.faults ∙ ap (λ (count : ℕ). counted_if (ends_with status.ReadFault result) count) one.faults;
  misses = two.misses ∙ ap (λ (count : ℕ). counted_if (ends_with status.Missing result) count) one.misses;
  told = names_in (IsLastOf two.opened) (IsLastOf (one.opened ++ two.opened)) (λ name last. (one.opened ++ last.0, ap (λ (o : List (List ℕ)). one.opened ++ o) last.1 ∙ sym (append_assoc one.opened last.0 (name ∷ [])))) result two.told;
  no_usage = two.no_usage;
  no_write = two.no_write;
  through = through_then (extent_of result) old mid new one.through two.through;
}

-- a part that stops, and nothing after it
pub reads_stopped : {A B C D : Type 0} (old new : ShelfState) (some more : List Named) (first : Files → Stage A) (next : Files → A → Stage B)
    (value_of : C → A) (later_of : D → B) (stop : Stop) (result : Result D Stop) → result ≡ Err stop →
    Reads {B = C} old new some first value_of (Err stop) → Reads old new (some ++ more) (λ files. Then (first files) (next files)) later_of result
reads_stopped {D = D} old new some more first next value_of later_of stop result is one =
    subst (λ (r : Result D Stop). Reads old new (some ++ more) (λ files. Then (first files) (next files)) later_of r) (sym is) (record {
      held = one.held;
      opened = one.opened;
      noted = one.noted;
      which = first-then some more one.opened one.which;
      came = λ files is. ends_first (first files) (next files) one.opened stop (one.came files is);
      faults = one.faults;
      misses = one.misses;
      told = one.told;
      no_usage = one.no_usage;
      no_write = one.no_write;
      through = one.through;
    })

-- a part that opens nothing more, behind one that made its value
pub ends_on : {A B D : Type 0} (first : Stage A) (next : A → Stage B) (opened : List (List ℕ)) (value : A) (later_of : D → B) → first opened (goes value) → (result : Result D Stop) →
    EndsAs (next value []) later_of result → EndsAs (Then first next opened) later_of result
ends_on first next opened value later_of begins (Ok later) ends = goes-on first next opened value (goes (later_of later)) begins ends
ends_on first next opened value later_of begins (Err stop) ends = by_cause (λ output. next value [] (halts output)) (λ output. Then first next opened (halts output))
    (λ name. next value [] (unread name)) (λ name. Then first next opened (unread name)) ⊥ ⊥ (Unit {0}) (Unit {0})
    (λ stop on. goes-on first next opened value (halts (stopped_by stop)) begins on) (λ name on. goes-on first next opened value (unread name) begins on) (λ no. no) (λ m. m) stop ends

-- which stops the run
pub reads_ended : {A B C D : Type 0} (extent : Extent) (old new : ShelfState) (named : List Named) (stage : Files → Stage A) (next : A → Stage B) (value_of : C → A) (later_of : D → B) (value : C) (stop : Stop) →
    ReadsUpTo extent old new named stage value_of (Ok value) → EndsAs (next (value_of value) []) later_of (Err stop) → IsInside stop → ReadsThrough (extent_of_stop stop) old new →
    Reads old new named (λ files. Then (stage files) next) later_of (Err stop)
reads_ended extent old new named stage next value_of later_of value stop one ends inside through = record {
  held = one.held;
  opened = one.opened;
  noted = one.noted;
  which = all-first named one.opened one.which;
  came = λ files is. ends_on (stage files) next one.opened (value_of value) later_of (one.came files is) (Err stop) ends;
  faults = one.faults ∙ ap (λ (b : Bool). counted_if b old.faults) (sym inside.read_fault);
  misses = one.misses ∙ ap (λ (b : Bool). counted_if b old.misses) (sym inside.missing);
  told = subst (λ (t : Option (List ℕ)). IfSome t (IsLastOf one.opened)) (sym inside.unnamed) tt;
  no_usage = inside.usage;
  no_write = inside.write_fault;
  through = through;
}

all_allowed : (extent : Extent) (old new : ShelfState) → AllowsAll extent → ReadsThrough all_files old new → ReadsThrough extent old new
all_allowed all_files old new allows through = through
all_allowed all_but_last old new allows through = absurd allows
all_allowed all_or_but_last old new allows through = one_of_both all_files old new through

pub reads_on : {A B C D : Type 0} (old new : ShelfState) (named : List Named) (stage : Files → Stage A) (next : A → Stage B) (value_of : C → A) (later_of : D → B) (value : C) (result : Result D Stop) →
    Reads old new named stage value_of (Ok value) → EndsAs (next (value_of value) []) later_of result → IfErr result IsInner →
    Reads old new named (λ files. Then (stage files) next) later_of result
reads_on old new named stage next value_of later_of value (Ok later) one ends inner = record {
  held = one.held;
  opened = one.opened;
  noted = one.noted;
  which = one.which;
  came = λ files is. ends_on (stage files) next one.opened (value_of value) later_of (one.came files is) (Ok later) ends;
  faults = one.faults;
  misses = one.misses;
  told = tt;
  no_usage = refl;
  no_write = refl;
  through = one.through;
}
reads_on old new named stage next value_of later_of value (Err stop) one ends inner =
    reads_ended all_files old new named stage next value_of later_of value stop one ends inner.inside (all_allowed (extent_of_stop stop) old new inner.all_read one.through)

-- the value of a part, seen as another one
pub reads_as : {A B C D : Type 0} (old new : ShelfState) (named : List Named) (stage : Files → Stage A) (turn : A → B) (value_of : C → A) (later_of : D → B) (value : C) (later : D) → later_of later ≡ turn (value_of value) →
    Reads old new named stage value_of (Ok value) → Reads old new named (λ files. Then (stage files) (λ made. Is (goes (turn made)))) later_of (Ok later)
reads_as {A} {B} old new named stage turn value_of later_of value later is one =
    reads_on old new named stage (λ made. Is (goes (turn made))) value_of later_of value (Ok later) one (refl, ap (λ (made : B). goes made) is) tt

-- memory ran out before anything was opened
pub reads_nothing : {A D : Type 0} (state : ShelfState) (named : List Named) (stage : Files → Stage A) (later_of : D → A) (result : Result D Stop) (stop : Stop) → result ≡ Err stop → stop ≡ Memory →
    Reads state state named stage later_of result
reads_nothing {D = D} state named stage later_of result stop is memory = subst (λ (r : Result D Stop). Reads state state named stage later_of r) (sym (is ∙ ap Err memory)) (record {
  held = refl;
  opened = [];
  noted = sym (append-nil state.opened);
  which = none-first named;
  came = λ files told. tt;
  faults = refl;
  misses = refl;
  told = tt;
  no_usage = refl;
  no_write = refl;
  through = one_of_both all_files state state (nothing_through state);
})

-- a part that opens nothing and makes its value
pub reads_none : {A D : Type 0} (state : ShelfState) (stage : Files → Stage A) (later_of : D → A) (later : D) → ((files : Files) → stage files [] (goes (later_of later))) → Reads state state [] stage later_of (Ok later)
reads_none state stage later_of later makes = record {
  held = refl;
  opened = [];
  noted = sym (append-nil state.opened);
  which = refl;
  came = λ files told. makes files;
  faults = refl;
  misses = refl;
  told = tt;
  no_usage = refl;
  no_write = refl;
  through = nothing_through state;
}

-- a part that was stopped, as one of another kind
pub reads_same : {A C D : Type 0} (old new : ShelfState) (named : List Named) (stage : Files → Stage A) (value_of : C → A) (later_of : D → A) (stop : Stop) (result : Result D Stop) → result ≡ Err stop →
    Reads {B = C} old new named stage value_of (Err stop) → Reads old new named stage later_of result
reads_same {D = D} old new named stage value_of later_of stop result is one =
    subst (λ (r : Result D Stop). Reads old new named stage later_of r) (sym is) (record {
      held = one.held;
      opened = one.opened;
      noted = one.noted;
      which = one.which;
      came = one.came;
      faults = one.faults;
      misses = one.misses;
      told = one.told;
      no_usage = one.no_usage;
      no_write = one.no_write;
      through = one.through;
    })
