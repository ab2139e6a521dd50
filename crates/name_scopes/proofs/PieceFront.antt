-- The first event of a fragment: nothing comes behind a text, a comment or a processing instruction.
use Rattle.std.proofs.Common.{◌≡◌, ◌<◌, Bool, true, false, List, [], ◌∷◌, length, get_or, drop, refl, sym, ap, ◌∙◌, subst, true≢false, arith}
use Rattle.pyx_core.specs.declared.event.Event.{Event}
use Rattle.pyx_core.specs.declared.event.Event.TheVariants as event
use Rattle.pyx_core.specs.declared.mode.Mode.TheVariants.{Fragment}
use Rattle.pyx_core.specs.Nesting.{Fits, Nest, after, place_after, start}
use Rattle.doc_tree.specs.Scope.{Decl}
use Rattle.name_scopes.specs.inner.Build.{IsLeaf}
use Rattle.name_scopes.specs.inner.Piece.{IsAcceptable, is_start}
use Rattle.name_scopes.proofs.PieceTests.{rest-at}

module _ (around : List Decl) (events : List Event) (ok : IsAcceptable around events) where
  some-event : 0 < length events
  some-event = by events ok.fragment.end.begun
    where
      by : (events : List Event) → (place_after Fragment start events).begun ≡ true → 0 < length events
      by [] h = absurd (true≢false (sym h))
      by (e ∷ events) h = omega arith

  module _ (e f : Event) (is : e ≡ get_or events 0 e) (also : f ≡ get_or events 0 f) where
    -- the first event, looked up twice
    pub same-first : e ≡ f
    same-first = let k : e ∷ drop 1 events ≡ f ∷ drop 1 events = sym (rest-at events 0 e some-event is) ∙ rest-at events 0 f some-event also in cc

  module _ (e : Event) (is : e ≡ get_or events 0 e) where
    split : events ≡ e ∷ drop 1 events
    split = rest-at events 0 e some-event is

    nests : Nest Fragment start (e ∷ drop 1 events)
    nests = subst (Nest Fragment start) split ok.fragment.nest

    first-fits : Fits Fragment start e
    first-fits = nests.0

    first-leaf : is_start e ≡ false → IsLeaf e
    first-leaf h = by e h first-fits
      where
        by : (e : Event) → is_start e ≡ false → Fits Fragment start e → IsLeaf e
        by (event.Start name attrs) h fits = absurd (true≢false h)
        by (event.End name) h fits = absurd (cc)
        by (event.Chars text) h fits = tt
        by (event.Pi target body) h fits = tt
        by (event.Comment text) h fits = tt

    -- nothing comes behind one that is no tag
    pub alone : is_start e ≡ false → events ≡ e ∷ []
    alone h = split ∙ ap (λ (l : List Event). e ∷ l) (by e (first-leaf h) (drop 1 events) nests.1)
      where
        closed : (f : Event) (b : Bool) → Fits Fragment (record { opened = []; begun = true; after_chars = b }) f → ⊥
        closed (event.Start name attrs) b fits = true≢false fits.room
        closed (event.End name) b fits = let k : [] ≡ name ∷ [] = fits in absurd (cc)
        closed (event.Chars text) b fits = true≢false (fits.room refl)
        closed (event.Pi target body) b fits = true≢false (fits.room refl)
        closed (event.Comment text) b fits = true≢false (fits.room refl)

        none : (rest : List Event) (b : Bool) → Nest Fragment (record { opened = []; begun = true; after_chars = b }) rest → rest ≡ []
        none [] b nest = refl
        none (f ∷ rest) b nest = absurd (closed f b nest.0)

        by : (e : Event) → IsLeaf e → (rest : List Event) → Nest Fragment (after Fragment start e) rest → rest ≡ []
        by (event.Start name attrs) leaf rest nest = absurd leaf
        by (event.End name) leaf rest nest = absurd leaf
        by (event.Chars text) leaf rest nest = none rest true nest
        by (event.Pi target body) leaf rest nest = none rest false nest
        by (event.Comment text) leaf rest nest = none rest false nest
