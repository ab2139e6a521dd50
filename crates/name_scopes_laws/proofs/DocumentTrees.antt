-- Each text without fault has a tree: its events lead from the root alone to it, one by one.
use Rattle.std.proofs.Common.{◌≡◌, ℕ, ◌+◌, ◌≤◌, List, [], ◌∷◌, ◌++◌, length, sum_by, Option, None, Some, refl, sym, ap, ◌∙◌, subst, arith, append-nil, append_assoc}
use Rattle.std.specs.Prelude.{option_map}
use Rattle.std.proofs.lemmas.List.Sums.{sum_by-cons}
use Rattle.pyx_core.specs.declared.event.Event.{Event}
use Rattle.pyx_core.specs.declared.event.Event.TheVariants as event
use Rattle.pyx_core.specs.declared.event.Located.{Located}
use Rattle.pyx_core.specs.declared.mode.Mode.TheVariants.{Document}
use Rattle.pyx_core.specs.Nesting.{EventsNest, Nest, Place, after, bare, place_after, start}
use Rattle.pyx_core.specs.Reading.{events_before_fault, events_of, events_unless, fault_of}
use Rattle.doc_table.proofs.SoundLemmas.{sound_alone}
use Rattle.doc_table.proofs.TreeLaws.{ways-up, well-formed}
use Rattle.doc_tree.specs.limits.TheConstants.{MAX_LIVE_TEXT_BYTES}
use Rattle.doc_tree.specs.Table.{Table, root_alone}
use Rattle.name_scopes.specs.DocFaults.{Standing, begin, doc_fault, event_fault, fault_at, first_fault, line_fault, moved}
use Rattle.name_scopes.specs.Fragments.{plain_text}
use Rattle.name_scopes.specs.RoundTrip.{ComesBack, TextComesBack, TreeComesBack}
use Rattle.name_scopes.specs.ScopedTree.{Scoped}
use Rattle.name_scopes.specs.TreeText.{tree_text}
use Rattle.name_scopes.specs.inner.Build.{event_text}
use Rattle.name_scopes.proofs.LoadStart.{root-builds}
use Rattle.name_scopes.proofs.PieceSteps.{plain-more}
use Rattle.name_scopes.proofs.StartLemmas.{plain-bytes}
use Rattle.name_scopes.proofs.TextBound.{front-text}
use Rattle.name_scopes.proofs.WholeLemmas.{whole}
use Rattle.name_scopes_laws.specs.Documents.{DocumentsComeBack}
use Rattle.name_scopes_laws.proofs.PieceSizes.{piece-text}
use Rattle.name_scopes_laws.proofs.TreeSteps.{Grown, event-on, or-none}

map-none : {A B : Type 0} (f : A → B) (o : Option A) → option_map f o ≡ None → o ≡ None
map-none f None h = refl
map-none f (Some x) h = absurd (cc)

-- in front of all events
alone : Grown [] start begin
alone = record {
  tree = root_alone.nodes;
  node = 0;
  formed = (sound_alone []).formed;
  builds = root-builds [];
  bytes = refl;
}

-- events without fault lead a tree on
events-on : (back : List Located) (taken : List Event) (place : Place) (standing : Standing) → Grown taken place standing → Nest Document place (bare back) → first_fault standing back ≡ None →
    sum_by plain_text taken + sum_by plain_text (bare back) ≤ MAX_LIVE_TEXT_BYTES → (last : Standing) × Grown (taken ++ bare back) (place_after Document place (bare back)) last
events-on [] taken place standing g nest none little = (standing, subst (λ (l : List Event). Grown l place standing) (sym (append-nil taken)) g)
events-on (found ∷ back) taken place standing g nest none little =
    let parts = or-none (option_map (fault_at found.line) (event_fault standing found.event)) (first_fault (moved standing found.event) back) none in
    let sums : sum_by plain_text (bare (found ∷ back)) ≡ plain_text found.event + sum_by plain_text (bare back) = sum_by-cons plain_text found.event (bare back) in
    let next : Grown (taken ++ found.event ∷ []) (after Document place found.event) (moved standing found.event) =
    event-on taken place standing g found.event nest.0 (omega (arith, little, sums)) (map-none (fault_at found.line) (event_fault standing found.event) parts.0) in
    let all = events-on back (taken ++ found.event ∷ []) (after Document place found.event) (moved standing found.event) next nest.1 parts.1 (omega (arith, little, sums, plain-more taken found.event)) in
    (all.0, subst (λ (l : List Event). Grown l (place_after Document (after Document place found.event) (bare back)) all.0) (append_assoc taken (found.event ∷ []) (bare back)) all.1)

-- a text without fault has a tree, where its events bring no more text than a tree may have
pub events-tree : EventsNest → (bytes : List ℕ) → doc_fault bytes ≡ None → sum_by plain_text (bare (events_of Document bytes)) ≤ MAX_LIVE_TEXT_BYTES →
    (T : Table) × Scoped (bare (events_of Document bytes)) T
events-tree nests bytes none little =
    let parts = or-none (first_fault begin (events_before_fault Document bytes)) (option_map line_fault (fault_of Document bytes)) none in
    let good : fault_of Document bytes ≡ None = map-none line_fault (fault_of Document bytes) parts.1 in
    let is : events_before_fault Document bytes ≡ events_of Document bytes = ap (events_unless Document bytes) good in
    let nest = nests.in_all Document bytes good in
    let all = events-on (events_of Document bytes) [] start begin alone nest.0 (ap (first_fault begin) (sym is) ∙ parts.0) (omega (arith, little)) in
    let g = all.1 in
    (g.tree, whole (bare (events_of Document bytes)) (place_after Document start (bare (events_of Document bytes))) all.0 g.tree g.node nest.1 (ways-up g.tree g.formed) (well-formed g.tree g.formed) g.builds)

plain-less : (events : List Event) → sum_by plain_text events ≤ sum_by event_text events
plain-less [] = omega arith
plain-less (e ∷ events) = omega (arith, by e, plain-less events, sum_by-cons plain_text e events, sum_by-cons event_text e events)
  where
    by : (e : Event) → plain_text e ≤ event_text e
    by (event.Start name attrs) = plain-bytes attrs
    by (event.End name) = omega arith
    by (event.Chars text) = omega arith
    by (event.Pi target body) = omega arith
    by (event.Comment text) = omega arith

-- as they do where the text is no longer than that
pub document-tree : EventsNest → (bytes : List ℕ) → doc_fault bytes ≡ None → length bytes ≤ MAX_LIVE_TEXT_BYTES → (T : Table) × Scoped (bare (events_of Document bytes)) T
document-tree nests bytes none short =
    let parts = or-none (first_fault begin (events_before_fault Document bytes)) (option_map line_fault (fault_of Document bytes)) none in
    let is : events_before_fault Document bytes ≡ events_of Document bytes = ap (events_unless Document bytes) (map-none line_fault (fault_of Document bytes) parts.1) in
    events-tree nests bytes none
    (omega (arith, short, front-text Document bytes, ap (λ (l : List Located). sum_by event_text (bare l)) is, plain-less (bare (events_of Document bytes))))

-- and as they do where it is the text of a tree: the tree comes back
pub document-back : EventsNest → TextComesBack → TreeComesBack → DocumentsComeBack
document-back nests text tree T form scoped is =
    let back : ComesBack T = text T form scoped is in
    let little : sum_by plain_text (bare (events_of Document (tree_text T))) ≤ MAX_LIVE_TEXT_BYTES =
    omega (arith, form.little_text, piece-text T form (bare (events_of Document (tree_text T))) back.lines_are) in
    let made : (U : Table) × Scoped (bare (events_of Document (tree_text T))) U = events-tree nests (tree_text T) back.good little in
    (made.0, made.1, (tree T made.0 form scoped is made.1).0)
