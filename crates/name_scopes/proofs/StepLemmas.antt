-- Events taken by a tree under way, one by one.
use Rattle.std.proofs.Common.{◌≡◌, ◌≢◌, ℕ, ◌+◌, ◌≤◌, suc, Bool, true, false, ◌&&◌, List, [], ◌∷◌, ◌++◌, length, map, sum_by, Option, None, Some, refl, sym, ap, ap₂, ◌∙◌, subst, true≢false, arith, append-nil, nat_lt}
use Rattle.std.specs.Prelude.{if◌then◌else◌, Result, Ok, Err, IfErr, OnOk, is_none}
use Rattle.std.specs.List.{flat_map}
use Rattle.std.specs.Option.{option_or}
use Rattle.std.proofs.lemmas.Bool.{le-ltb}
use Rattle.std.proofs.Common.{ltb-false}
use Rattle.std.proofs.lemmas.List.{map-append}
use Rattle.std.proofs.lemmas.List.Concat.{flat_map-append}
use Rattle.std.proofs.lemmas.List.Sums.{sum_by-append, sum_by-cons}
use Rattle.sch_base.specs.Lists.{is_nil}
use Rattle.pyx_core.specs.declared.event.Attr.{Attr}
use Rattle.pyx_core.specs.declared.event.Event.{Event}
use Rattle.pyx_core.specs.declared.event.Event.TheVariants as event
use Rattle.pyx_core.specs.declared.mode.Mode.TheVariants.{Document}
use Rattle.pyx_core.specs.Nesting.{Place, StartFits, after}
use Rattle.doc_tree.specs.limits.TheConstants.{MAX_DEPTH, MAX_LIVE_NODES}
use Rattle.doc_tree.specs.Table.{Table}
use Rattle.doc_tree.specs.Walks.{above, order, text_bytes}
use Rattle.doc_tree.specs.Lines.{Line, starts, declares}
use Rattle.doc_tree.specs.Growth.{ends_in_text}
use Rattle.doc_tree.specs.Laws.{HasWaysUp, WellFormed}
use Rattle.doc_tree.specs.Scope.{Decl, namespace_in, scope_at, HasScopes}
use Rattle.name_scopes.specs.declared.build.Loader.{Loader}
use Rattle.name_scopes.specs.declared.fault.DocKind.{DocKind}
use Rattle.name_scopes.specs.declared.fault.EventError.{EventError}
use Rattle.name_scopes.specs.declared.fault.EventError.TheVariants.{Kind, Memory}
use Rattle.name_scopes.specs.declared.fault.DocKind.TheVariants.{NoPrefix, TooManyNodes, TooDeep}
use Rattle.name_scopes.specs.QNames.{prefix_part}
use Rattle.name_scopes.specs.Declarations.{declarations, plain_attrs}
use Rattle.name_scopes.specs.ScopedTree.{written, attribute_line, said_by, unscoped}
use Rattle.name_scopes.specs.DocFaults.{Standing, attrs_fault, in_scope, tag_fault, tag_nodes, event_fault, moved}
use Rattle.name_scopes.specs.inner.Build.{Receives, IsTooDeep, TakesEvent, Says, Builds, Loads, AreOpen, Begins, room_fault, scoped_line, start_lines, event_text}
use Rattle.name_scopes.proofs.OpenElements.{open-apart, open-root, open-scope, open-depth}
use Rattle.name_scopes.proofs.TellLemmas.{tells-receives}

-- lines with their namespaces left out

declared-lines : (decls : List Decl) → map unscoped (map declares decls) ≡ map declares decls
declared-lines [] = refl
declared-lines (d ∷ decls) = ap (λ (ls : List Line). declares d ∷ ls) (declared-lines decls)

attribute-lines : (scope : List Decl) (attrs : List Attr) → map unscoped (map (scoped_line scope) attrs) ≡ map attribute_line attrs
attribute-lines scope [] = refl
attribute-lines scope (a ∷ attrs) = ap (λ (ls : List Line). attribute_line a ∷ ls) (attribute-lines scope attrs)

start-lines : (scope : List Decl) (name : List ℕ) (attrs : List Attr) → map unscoped (start_lines scope name attrs) ≡ said_by (event.Start name attrs)
start-lines scope name attrs =
    ap (λ (ls : List Line). starts (written name) ∷ ls)
    (map-append unscoped (map declares (declarations attrs)) (map (scoped_line scope) (plain_attrs attrs))
    ∙ ap₂ (λ (l r : List Line). l ++ r) (declared-lines (declarations attrs)) (attribute-lines scope (plain_attrs attrs)))

-- one event more was told
pub told-more : (told lines : List Line) (taken : List Event) (e : Event) → map unscoped told ≡ flat_map said_by taken → map unscoped lines ≡ said_by e → map unscoped (told ++ lines) ≡ flat_map said_by (taken ++ e ∷ [])
told-more told lines taken e had is =
    map-append unscoped told lines
    ∙ (ap₂ (λ (l r : List Line). l ++ r) had is
    ∙ sym (flat_map-append said_by taken (e ∷ []) ∙ ap (λ (ls : List Line). flat_map said_by taken ++ ls) (append-nil (said_by e))))

pub text-more : (taken : List Event) (e : Event) → sum_by event_text (taken ++ e ∷ []) ≡ sum_by event_text taken + event_text e
text-more taken e = sum_by-append event_text taken (e ∷ []) ∙ ap (λ (k : ℕ). sum_by event_text taken + k) (sum_by-cons event_text e [] ∙ omega arith)

-- faults

pub or-none : {A : Type 0} (a b : Option A) → option_or a b ≡ None → (a ≡ None) × (b ≡ None)
or-none None b h = (refl, h)
or-none (Some x) b h = absurd (cc)

room-none : (nodes : ℕ) → room_fault nodes ≡ None → nat_lt MAX_LIVE_NODES nodes ≡ false
room-none nodes h = by (nat_lt MAX_LIVE_NODES nodes) h
  where
    by : (b : Bool) → (if b then Some TooManyNodes else None) ≡ None → b ≡ false
    by true h = absurd (cc)
    by false h = refl

-- a fault that a check finds is that of the start tag
pub start-faulty : (standing : Standing) (name : List ℕ) (attrs : List Attr) (nodes : ℕ) (what : DocKind) → nodes ≡ standing.nodes →
    Some what ≡ option_or (tag_fault (in_scope (declarations attrs ∷ standing.scopes)) name attrs) (room_fault (nodes + tag_nodes attrs)) → event_fault standing (event.Start name attrs) ≡ Some what
start-faulty standing name attrs nodes what same h =
    by (tag_fault (in_scope (declarations attrs ∷ standing.scopes)) name attrs) (nat_lt MAX_LIVE_NODES (standing.nodes + tag_nodes attrs))
    (h ∙ ap (λ (k : ℕ). option_or (tag_fault (in_scope (declarations attrs ∷ standing.scopes)) name attrs) (room_fault (k + tag_nodes attrs))) same)
  where
    by : (o : Option DocKind) (b : Bool) → Some what ≡ option_or o (if b then Some TooManyNodes else None) →
        option_or o (if b then Some TooManyNodes else if nat_lt MAX_DEPTH (suc (length standing.scopes)) then Some TooDeep else None) ≡ Some what
    by (Some kind) b h = sym h
    by None true h = sym h
    by None false h = absurd (cc)

-- what a check that finds nothing says of a start tag whose own prefix is in scope
pub record Passes (scope : List Decl) (name : List ℕ) (attrs : List Attr) (nodes : ℕ) : Type 0 where
  pub good : tag_fault scope name attrs ≡ None
  pub room : nodes + tag_nodes attrs ≤ MAX_LIVE_NODES

pub passes : (scope : List Decl) (name : List ℕ) (attrs : List Attr) (nodes : ℕ) → is_none (namespace_in scope (prefix_part name)) ≡ false → None ≡ option_or (attrs_fault scope attrs) (room_fault (nodes + tag_nodes attrs)) → Passes scope name attrs nodes
passes scope name attrs nodes known h =
    let both = or-none (attrs_fault scope attrs) (room_fault (nodes + tag_nodes attrs)) (sym h) in
    record { good = rw known both.0; room = ltb-false MAX_LIVE_NODES (nodes + tag_nodes attrs) (room-none (nodes + tag_nodes attrs) both.1) }

start-limit : (standing : Standing) (name : List ℕ) (attrs : List Attr) (deep : Bool) → tag_fault (in_scope (declarations attrs ∷ standing.scopes)) name attrs ≡ None → standing.nodes + tag_nodes attrs ≤ MAX_LIVE_NODES →
    nat_lt MAX_DEPTH (suc (length standing.scopes)) ≡ deep → event_fault standing (event.Start name attrs) ≡ (if deep then Some TooDeep else None)
start-limit standing name attrs deep good room is =
    let few : nat_lt MAX_LIVE_NODES (standing.nodes + tag_nodes attrs) ≡ false = le-ltb MAX_LIVE_NODES (standing.nodes + tag_nodes attrs) room in
    rw (good, few, is) refl

-- the innermost open element of a loader, its scope and its depth
module _ (around : List Decl) (taken : List Event) (place : Place) (standing : Standing) (T : Table) (p : ℕ) (builds : Builds around taken place standing T p) where
  pub builds-receives : Receives T p
  builds-receives = tells-receives builds.told place.opened standing.scopes place.begun (sum_by event_text taken) T p builds.tells

  pub builds-scope : HasScopes T → scope_at T p ≡ in_scope standing.scopes
  builds-scope laws = open-scope T place.opened standing.scopes p laws builds.tells.way

  pub builds-text : text_bytes T ≤ sum_by event_text taken
  builds-text = builds.tells.little

  pub start-deep : (name : List ℕ) (attrs : List Attr) → HasWaysUp T → tag_fault (in_scope (declarations attrs ∷ standing.scopes)) name attrs ≡ None → length (order T) + tag_nodes attrs ≤ MAX_LIVE_NODES →
      nat_lt MAX_DEPTH (length (above T p)) ≡ true → event_fault standing (event.Start name attrs) ≡ Some TooDeep
  start-deep name attrs ways good room deep =
      start-limit standing name attrs true good (omega (arith, room, builds.count))
      (ap (nat_lt MAX_DEPTH) (sym (open-depth T place.opened standing.scopes p ways builds.tells.way)) ∙ deep)

  pub start-passes : (name : List ℕ) (attrs : List Attr) → HasWaysUp T → tag_fault (in_scope (declarations attrs ∷ standing.scopes)) name attrs ≡ None → length (order T) + tag_nodes attrs ≤ MAX_LIVE_NODES →
      nat_lt MAX_DEPTH (length (above T p)) ≡ false → event_fault standing (event.Start name attrs) ≡ None
  start-passes name attrs ways good room shallow =
      start-limit standing name attrs false good (omega (arith, room, builds.count))
      (ap (nat_lt MAX_DEPTH) (sym (open-depth T place.opened standing.scopes p ways builds.tells.way)) ∙ shallow)

  some-open : (name : List ℕ) (attrs : List Attr) → StartFits place name attrs → place.begun ≡ true → (names : List (List ℕ)) → place.opened ≡ names → names ≢ []
  some-open name attrs fits begun names is none =
      let room : (is_nil place.opened && place.begun) ≡ false = fits.room in
      true≢false (sym (ap₂ (λ a b. a && b) (ap is_nil (is ∙ none)) begun) ∙ room)

  -- an element comes under the root where none has begun, and else under another
  pub start-apart : (name : List ℕ) (attrs : List Attr) → WellFormed T → StartFits place name attrs → place.begun ≡ true → p ≢ 0
  start-apart name attrs formed fits begun = open-apart T place.opened standing.scopes p formed (some-open name attrs fits begun place.opened refl) builds.tells.way

  pub start-at-root : place.begun ≡ false → p ≡ 0
  start-at-root none = by place.opened refl
    where
      by : (names : List (List ℕ)) → place.opened ≡ names → p ≡ 0
      by [] is = (open-root T standing.scopes p (subst (λ (names : List (List ℕ)). AreOpen T names standing.scopes p) is builds.tells.way)).0
      by (name ∷ names) is = absurd (true≢false (sym (builds.inside (λ e. let k : name ∷ names ≡ [] = sym is ∙ e in absurd (cc))) ∙ none))

  -- a start tag was taken
  pub builds-start : (U : Table) (n : ℕ) (scope : List Decl) (name : List ℕ) (attrs : List Attr) → WellFormed T → StartFits place name attrs → scope ≡ declarations attrs ++ (scope_at T p ++ around) → Begins T U p n scope name attrs →
      Builds around (taken ++ event.Start name attrs ∷ []) (after Document place (event.Start name attrs)) (moved standing (event.Start name attrs)) U n
  builds-start U n scope name attrs formed fits scope_is begins = record {
    told = builds.told ++ start_lines scope name attrs;
    tells = subst (λ (k : ℕ). Says (builds.told ++ start_lines scope name attrs) (name ∷ place.opened) (declarations attrs ∷ standing.scopes) true k U n) (sym (text-more taken (event.Start name attrs)))
        (begins.tells builds.told place.opened standing.scopes place.begun (sum_by event_text taken) (start-apart name attrs formed fits) start-at-root builds.tells);
    told_is = told-more builds.told (start_lines scope name attrs) taken (event.Start name attrs) builds.told_is (start-lines scope name attrs);
    inside = λ some. refl;
    behind_is = ap (ends_in_text U) begins.no_kid;
    scoped = begins.scoped around scope_is builds.scoped;
    count = begins.counted ∙ ap (λ (k : ℕ). k + tag_nodes attrs) builds.count;
  }

-- the answers to a start tag

pub loads-start : (taken : List Event) (place : Place) (standing : Standing) (old new : Loader) (n : ℕ) (name : List ℕ) (attrs : List Attr) → HasScopes old.tree.nodes → WellFormed old.tree.nodes → StartFits place name attrs →
    new.scope ≡ declarations attrs ++ old.scope → Begins old.tree.nodes new.tree.nodes old.place n new.scope name attrs → new.place ≡ n → Loads taken place standing old →
    Loads (taken ++ event.Start name attrs ∷ []) (after Document place (event.Start name attrs)) (moved standing (event.Start name attrs)) new
loads-start taken place standing old new n name attrs laws formed fits scope_is begins place_is loads = record {
  builds = subst (Builds [] (taken ++ event.Start name attrs ∷ []) (after Document place (event.Start name attrs)) (moved standing (event.Start name attrs)) new.tree.nodes) (sym place_is)
      (builds-start [] taken place standing old.tree.nodes old.place loads.builds new.tree.nodes n new.scope name attrs formed fits here begins);
  scope_is = scope_is ∙ ap (λ (l : List Decl). declarations attrs ++ l) loads.scope_is;
}
  where
    here : new.scope ≡ declarations attrs ++ (scope_at old.tree.nodes old.place ++ [])
    here = scope_is ∙ ap (λ (l : List Decl). declarations attrs ++ l) (loads.scope_is ∙ (sym (builds-scope [] taken place standing old.tree.nodes old.place loads.builds laws) ∙ sym (append-nil (scope_at old.tree.nodes old.place))))

-- what a check says, in the scope of the open elements
module _ (taken : List Event) (place : Place) (standing : Standing) (old : Loader) (scope : List Decl) (name : List ℕ) (attrs : List Attr) (scope_is : scope ≡ declarations attrs ++ old.scope) (loads : Loads taken place standing old) where
  pub tag-scope : scope ≡ in_scope (declarations attrs ∷ standing.scopes)
  tag-scope = scope_is ∙ ap (λ (l : List Decl). declarations attrs ++ l) loads.scope_is

  pub prefix-faulty : is_none (namespace_in scope (prefix_part name)) ≡ true → event_fault standing (event.Start name attrs) ≡ Some NoPrefix
  prefix-faulty unknown =
      let here : is_none (namespace_in (in_scope (declarations attrs ∷ standing.scopes)) (prefix_part name)) ≡ true =
      ap (λ (s : List Decl). is_none (namespace_in s (prefix_part name))) (sym tag-scope) ∙ unknown in
      rw here refl

  pub check-faulty : (what : DocKind) → is_none (namespace_in scope (prefix_part name)) ≡ false → Some what ≡ option_or (attrs_fault scope attrs) (room_fault (length (order old.tree.nodes) + tag_nodes attrs)) → event_fault standing (event.Start name attrs) ≡ Some what
  check-faulty what known h =
      start-faulty standing name attrs (length (order old.tree.nodes)) what loads.builds.count
      (rw known h ∙ ap (λ (s : List Decl). option_or (tag_fault s name attrs) (room_fault (length (order old.tree.nodes) + tag_nodes attrs))) tag-scope)

  check-passes : HasWaysUp old.tree.nodes → Passes scope name attrs (length (order old.tree.nodes)) → nat_lt MAX_DEPTH (length (above old.tree.nodes old.place)) ≡ false → event_fault standing (event.Start name attrs) ≡ None
  check-passes ways p shallow =
      start-passes [] taken place standing old.tree.nodes old.place loads.builds name attrs ways (ap (λ (s : List Decl). tag_fault s name attrs) (sym tag-scope) ∙ p.good) p.room shallow

  start-refused : (new : Loader) (err : EventError) → HasWaysUp old.tree.nodes → Passes scope name attrs (length (order old.tree.nodes)) → IsTooDeep old.tree.nodes old.place err → TakesEvent taken place standing (event.Start name attrs) new (Err err)
  start-refused new (Kind what) ways p deep =
      start-deep [] taken place standing old.tree.nodes old.place loads.builds name attrs ways (ap (λ (s : List Decl). tag_fault s name attrs) (sym tag-scope) ∙ p.good) p.room deep.1 ∙ ap Some (sym deep.0)
  start-refused new Memory ways p deep = tt

  -- the answer to a start tag that passes
  pub start-taken : (new : Loader) (result : Result (Unit {0}) EventError) → HasWaysUp old.tree.nodes → HasScopes old.tree.nodes → WellFormed old.tree.nodes → StartFits place name attrs → Passes scope name attrs (length (order old.tree.nodes)) →
      new.scope ≡ scope → (T : Table) → T ≡ old.tree.nodes → OnOk result (Begins T new.tree.nodes old.place new.place scope name attrs) → OnOk result (nat_lt MAX_DEPTH (length (above T old.place)) ≡ false) → IfErr result (IsTooDeep T old.place) →
      TakesEvent taken place standing (event.Start name attrs) new result
  start-taken new (Ok done) ways scopes formed fits p same T is begins shallow deep = (
    check-passes ways p (subst (λ (T : Table). nat_lt MAX_DEPTH (length (above T old.place)) ≡ false) is shallow),
    loads-start taken place standing old new new.place name attrs scopes formed fits (same ∙ scope_is)
        (subst (λ (s : List Decl). Begins old.tree.nodes new.tree.nodes old.place new.place s name attrs) (sym same)
        (subst (λ (T : Table). Begins T new.tree.nodes old.place new.place scope name attrs) is begins)) refl loads,
  )
  start-taken new (Err error) ways scopes formed fits p same T is begins shallow deep =
      start-refused new error ways p (subst (λ (T : Table). IsTooDeep T old.place error) is deep)
