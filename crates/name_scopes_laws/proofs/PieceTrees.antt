-- Each fragment that nothing refuses has a tree: its events lead from the root alone to it, one by one.
use Rattle.std.proofs.Common.{◌≡◌, ℕ, ◌+◌, ◌≤◌, Bool, true, false, List, [], ◌∷◌, ◌++◌, length, take, drop, Option, None, Some, refl, sym, subst, true≢false, arith, append-nil, append_assoc, nat_lt}
use Rattle.std.proofs.lemmas.List.{drop_all, take_all}
use Rattle.std.proofs.lemmas.List.Sums.{sum_by-cons}
use Rattle.pyx_core.specs.declared.event.Attr.{Attr}
use Rattle.pyx_core.specs.declared.event.Event.{Event}
use Rattle.pyx_core.specs.declared.event.Event.TheVariants as event
use Rattle.pyx_core.specs.declared.mode.Mode.TheVariants.{Document, Fragment}
use Rattle.pyx_core.specs.Nesting.{Fits, Place, after, start}
use Rattle.doc_table.specs.inner.Sound.{Formed}
use Rattle.doc_table.proofs.Appending.{Appended, appended}
use Rattle.doc_table.proofs.DeclareLemmas.{has-scopes}
use Rattle.doc_table.proofs.SoundLemmas.{sound_alone}
use Rattle.doc_table.proofs.Forests.{formed-of}
use Rattle.doc_table.proofs.TreeLaws.{ordered, ways-up, well-formed}
use Rattle.doc_tree.specs.limits.TheConstants.{MAX_DEPTH, MAX_LIVE_TEXT_BYTES}
use Rattle.doc_tree.specs.Growth.{FitsUnder, with_node}
use Rattle.doc_tree.specs.Scope.{Decl, scope_at}
use Rattle.doc_tree.specs.Table.{Table, decls_of, parent_of, root_alone, value_in}
use Rattle.doc_tree.specs.Walks.{above, text_bytes}
use Rattle.name_scopes.specs.Declarations.{declarations}
use Rattle.name_scopes.specs.DocFaults.{Standing, begin, moved}
use Rattle.name_scopes.specs.Fragments.{PieceInScope, plain_text}
use Rattle.name_scopes.specs.Scoping.{ContentInScope}
use Rattle.name_scopes.specs.declared.fault.DocKind.TheVariants.{TooDeep}
use Rattle.name_scopes.specs.inner.Build.{IsLeaf, Receives, leaf_of}
use Rattle.name_scopes.specs.inner.Piece.{IsAcceptable, IsPiece, PieceComes, PieceLoads, begins_element, is_start}
use Rattle.name_scopes.proofs.LeafLemmas.{end-parent, leaf-fits}
use Rattle.name_scopes.proofs.LoadStart.{root-builds}
use Rattle.name_scopes.proofs.PieceFront.{alone}
use Rattle.name_scopes.proofs.PieceSteps.{leaf-few, leaf-little, piece-none, put-end, put-good, put-leaf, put-little, put-room, put-shallow, put-start}
use Rattle.name_scopes.proofs.PieceWhole.{PieceGoing, acceptable, piece-all, piece-comes, piece-first, piece-on}
use Rattle.name_scopes.proofs.ScopeGrowth.{grown-scoped}
use Rattle.name_scopes.proofs.StepLemmas.{builds-receives}
use Rattle.name_scopes.proofs.TagFacts.{tag-good}
use Rattle.name_scopes_laws.specs.Pieces.{FragmentsHavePieces}
use Rattle.name_scopes_laws.proofs.TreeSteps.{element-begun, leaf-shallow, within}

-- what a call takes
abbrev Taken : {A : Type 0} → (A → Type 0) → Type 0
Taken {A = A} P = A

-- a tree under way
abbrev Loader : Type 0
Loader = Taken (PieceLoads [] [] start begin)

module _ (around : List Decl) (taken : List Event) (place : Place) (standing : Standing) (old : Loader) (formed : Formed old.tree.nodes) (loads : PieceLoads around taken place standing old) where
  abbrev T : Table
  T = old.tree.nodes

  -- a piece that an event more has led on
  abbrev Put : Event → Type 0
  Put e = (new : Loader) × Formed new.tree.nodes × PieceLoads around (taken ++ e ∷ []) (after Document place e) (moved standing e) new

  abbrev led : Table → ℕ → List Decl → Loader
  led U n scope = record old { tree = record old.tree { nodes = U }; place = n; scope = scope }

  receives : Receives T old.place
  receives = builds-receives around taken place standing T old.place loads.builds

  leaf-put : (e : Event) → IsLeaf e → PieceComes around taken place standing e → Put e
  leaf-put e leaf comes =
      let a : Appended T old.place (leaf_of e) =
      appended T old.place (leaf_of e) formed receives.holder (leaf-fits around taken place standing T old.place loads.builds e leaf comes.fits) receives.last receives.all_live
      (within T old.place (leaf_of e) (leaf-few around taken place standing old loads e leaf comes) (leaf-shallow T old.place e leaf) (leaf-little around taken place standing old loads e leaf comes)) in (
        led (with_node T old.place (leaf_of e)) old.place old.scope,
        a.formed,
        put-leaf around taken place standing old loads e leaf comes (led (with_node T old.place (leaf_of e)) old.place old.scope) (length T)
            (ways-up T formed) (well-formed T formed) (has-scopes T formed) a.grew refl refl,
      )

  -- behind the declarations of the innermost element
  abbrev outer : List Decl
  outer = drop (length (decls_of T old.place)) old.scope

  end-put : (name : List ℕ) → PieceComes around taken place standing (event.End name) → Put (event.End name)
  end-put name comes = by (parent_of T old.place) refl
    where
      by : (o : Option ℕ) → parent_of T old.place ≡ o → Put (event.End name)
      by None is = absurd (end-parent around taken place standing T old.place loads.builds name (ways-up T formed) comes.fits is)
      by (Some q) is = (led T q outer, formed, put-end around taken place standing old loads (led T q outer) name (ways-up T formed) comes refl is refl)

  module _ (name : List ℕ) (attrs : List Attr) (comes : PieceComes around taken place standing (event.Start name attrs)) where
    abbrev inner : List Decl
    inner = declarations attrs ++ old.scope

    shallow : nat_lt MAX_DEPTH (length (above T old.place)) ≡ false
    shallow = by (nat_lt MAX_DEPTH (length (above T old.place))) refl
      where
        by : (b : Bool) → nat_lt MAX_DEPTH (length (above T old.place)) ≡ b → b ≡ false
        by true is = absurd (put-shallow around taken place standing old loads name attrs comes inner refl TooDeep (ways-up T formed) (refl, is))
        by false is = refl

    start-put : Put (event.Start name attrs)
    start-put =
        let begun = element-begun T old.place formed receives inner place name attrs comes.fits
        (tag-good inner name attrs (put-good around taken place standing old loads name attrs comes inner refl))
        (put-room around taken place standing old loads name attrs comes inner refl) shallow
        (put-little around taken place standing old loads name attrs comes inner refl) in (
          led begun.0 (length T) inner,
          begun.1,
          put-start around taken place standing old loads name attrs comes inner refl (led begun.0 (length T) inner) (length T)
              (has-scopes T formed) (well-formed T formed) refl refl begun.2,
        )

  put : (e : Event) → PieceComes around taken place standing e → Put e
  put (event.Start name attrs) comes = start-put name attrs comes
  put (event.End name) comes = end-put name comes
  put (event.Chars text) comes = leaf-put (event.Chars text) tt comes
  put (event.Pi target body) comes = leaf-put (event.Pi target body) tt comes
  put (event.Comment text) comes = leaf-put (event.Comment text) tt comes

-- the events to come lead a piece on
module _ (around : List Decl) (events : List Event) where
  pieces-on : (back front : List Event) (loader : Loader) → Formed loader.tree.nodes → PieceGoing around events front back loader →
      (last : Loader) × Formed last.tree.nodes × PieceGoing around events (front ++ back) [] last
  pieces-on [] front loader formed going = (loader, formed, subst (λ (l : List Event). PieceGoing around events l [] loader) (sym (append-nil front)) going)
  pieces-on (e ∷ back) front loader formed going =
      let next = put around front going.place going.standing loader formed going.loads e (piece-comes around events front back e loader going) in
      let all = pieces-on back (front ++ e ∷ []) next.0 next.1 (piece-on around events front back e loader going next.0 next.2) in
      (all.0, all.1, subst (λ (l : List Event). PieceGoing around events l [] all.0) (append_assoc front (e ∷ []) back) all.2)

  -- a table that is a piece
  abbrev Made : Type 0
  Made = (P : Table) × Formed P × IsPiece around events P

  -- nothing is built yet
  abbrev loader : Loader
  loader = record { alloc = record { memory = record { seal = tt } }; tree = root_alone; place = 0; scope = around; recent = record { nodes = [] } }

  element-piece : IsAcceptable around events → begins_element events ≡ true → Made
  element-piece ok element =
      let all = pieces-on events [] loader (sound_alone []).formed (piece-first around events loader ok element (piece-none around loader refl refl refl)) in
      let last : PieceGoing around events (take (length events) events) (drop (length events) events) all.0 =
      subst (λ (b : List Event). PieceGoing around events (take (length events) events) b all.0) (sym (drop_all (length events) events (omega arith)))
      (subst (λ (f : List Event). PieceGoing around events f [] all.0) (sym (take_all (length events) events (omega arith))) all.2) in
      (all.0.tree.nodes, all.1, piece-all around events (length events) all.0 (omega arith) ok.fragment (ways-up all.0.tree.nodes all.1) last)

-- one text, comment or processing instruction
leaf-top : (e : Event) → IsLeaf e → Fits Fragment start e → FitsUnder root_alone.nodes 0 (leaf_of e)
leaf-top (event.Start name attrs) leaf fits = absurd leaf
leaf-top (event.End name) leaf fits = absurd leaf
leaf-top (event.Chars text) leaf fits = record { some = fits.some; apart = refl }
leaf-top (event.Pi target body) leaf fits = tt
leaf-top (event.Comment text) leaf fits = tt

leaf-scope : (scope : List Decl) (e : Event) → IsLeaf e → Fits Fragment start e → ContentInScope scope (Some (leaf_of e))
leaf-scope scope (event.Start name attrs) leaf fits = absurd leaf
leaf-scope scope (event.End name) leaf fits = absurd leaf
leaf-scope scope (event.Chars text) leaf fits = fits.made
leaf-scope scope (event.Pi target body) leaf fits = record { no_prefix = refl; no_namespace = refl; named = fits.named; made = fits.made }
leaf-scope scope (event.Comment text) leaf fits = fits.made

leaf-small : (e : Event) → IsLeaf e → plain_text e ≤ MAX_LIVE_TEXT_BYTES → text_bytes root_alone.nodes + length (value_in (leaf_of e)) ≤ MAX_LIVE_TEXT_BYTES
leaf-small (event.Start name attrs) leaf little = absurd leaf
leaf-small (event.End name) leaf little = absurd leaf
leaf-small (event.Chars text) leaf little = omega (arith, little)
leaf-small (event.Pi target body) leaf little = omega (arith, little)
leaf-small (event.Comment text) leaf little = omega (arith, little)

module _ (around : List Decl) (e : Event) (leaf : IsLeaf e) (fits : Fits Fragment start e) (little : plain_text e ≤ MAX_LIVE_TEXT_BYTES) where
  abbrev root : Table
  root = root_alone.nodes

  sound : Formed root
  sound = (sound_alone []).formed

  added : Appended root 0 (leaf_of e)
  added = appended root 0 (leaf_of e) sound refl (leaf-top e leaf fits) refl (root-builds around).tells.all_live (within root 0 (leaf_of e) refl (leaf-shallow root 0 e leaf) (leaf-small e leaf little))

  in-scope : PieceInScope around (with_node root 0 (leaf_of e))
  in-scope = grown-scoped root (with_node root 0 (leaf_of e)) 0 1 (leaf_of e) added.grew (has-scopes root sound) around refl (root-builds around).scoped (leaf-scope _ e leaf fits)

  leaf-piece : Made around (e ∷ [])
  leaf-piece = (with_node root 0 (leaf_of e), added.formed, by e leaf in-scope)
    where
      by : (e : Event) → IsLeaf e → PieceInScope around (with_node root 0 (leaf_of e)) → IsPiece around (e ∷ []) (with_node root 0 (leaf_of e))
      by (event.Start name attrs) leaf scoped = absurd leaf
      by (event.End name) leaf scoped = absurd leaf
      by (event.Chars text) leaf scoped = record { scoped = record { lines_are = refl; in_scope = scoped; numbered = refl; top = 1; one = refl }; nodes = refl; text = refl }
      by (event.Pi target body) leaf scoped = record { scoped = record { lines_are = refl; in_scope = scoped; numbered = refl; top = 1; one = refl }; nodes = refl; text = refl }
      by (event.Comment text) leaf scoped = record { scoped = record { lines_are = refl; in_scope = scoped; numbered = refl; top = 1; one = refl }; nodes = refl; text = refl }

leaf-by : (e : Event) → is_start e ≡ false → Fits Fragment start e → IsLeaf e
leaf-by (event.Start name attrs) isnt fits = absurd (true≢false isnt)
leaf-by (event.End name) isnt fits = absurd (let clash : [] ≡ name ∷ [] = fits in cc)
leaf-by (event.Chars text) isnt fits = tt
leaf-by (event.Pi target body) isnt fits = tt
leaf-by (event.Comment text) isnt fits = tt

-- the piece of a fragment
fragment-piece : (around : List Decl) (events : List Event) → IsAcceptable around events → Made around events
fragment-piece around [] ok = absurd (true≢false (sym ok.fragment.end.begun))
fragment-piece around (e ∷ rest) ok = by (is_start e) refl
  where
    by : (b : Bool) → is_start e ≡ b → Made around (e ∷ rest)
    by true is = element-piece around (e ∷ rest) ok is
    by false is =
        let fits : Fits Fragment start e = ok.fragment.nest.0 in
        let small : plain_text e ≤ MAX_LIVE_TEXT_BYTES = omega (arith, ok.little, sum_by-cons plain_text e rest) in
        subst (Made around) (sym (alone around (e ∷ rest) ok e refl is)) (leaf-piece around e (leaf-by e is fits) fits small)

pub fragments-have-pieces : FragmentsHavePieces
fragments-have-pieces T p events form fragment names little none =
    let first = (ordered T (formed-of T form)).root_first in
    let made = fragment-piece (scope_at T p) events (acceptable T p events none first.0 first.1 fragment names little) in
    (made.0, well-formed made.0 made.1, made.2.scoped)
