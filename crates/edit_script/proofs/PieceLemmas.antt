-- The events of a fragment are a piece.
use Rattle.std.proofs.Common.{◌≡◌, ℕ, ◌≤◌, Bool, true, false, List, [], ◌∷◌, length, sum_by, Option, None, Some, arith, refl, sym, subst}
use Rattle.std.specs.Prelude.{is_none}
use Rattle.std.proofs.lemmas.Bool.{and_parts}
use Rattle.std.proofs.lemmas.List.Sums.{sum_by-cons}
use Rattle.pyx_core.specs.declared.event.Attr.{Attr}
use Rattle.pyx_core.specs.declared.event.Event.{Event}
use Rattle.pyx_core.specs.declared.event.Event.TheVariants as event
use Rattle.pyx_core.specs.declared.mode.Mode.TheVariants.{Fragment}
use Rattle.pyx_core.specs.Nesting.{bare, EventsNest}
use Rattle.pyx_core.specs.Reading.{events_unless, fault_of}
use Rattle.name_scopes.specs.Declarations.{is_plain, plain_attrs}
use Rattle.name_scopes.specs.Fragments.{names_fault, plain_text}
use Rattle.name_scopes.specs.inner.Build.{event_text, value_bytes}
use Rattle.name_scopes.proofs.TextBound.{front-text}
use Rattle.edit_script.specs.declared.limits.TheConstants.{MAX_SCRIPT_BYTES}
use Rattle.edit_script.specs.Script.{is_piece, piece_of}
use Rattle.edit_script.specs.WellFormed.{IsPiece}

plain_by : (attr : Attr) (attrs : List Attr) (v : Bool) → is_plain attr ≡ v → sum_by value_bytes (plain_attrs attrs) ≤ sum_by value_bytes attrs →
    sum_by value_bytes (plain_attrs (attr ∷ attrs)) ≤ sum_by value_bytes (attr ∷ attrs)
plain_by attr attrs true is rest =
    rw is (omega (arith, sum_by-cons value_bytes attr (plain_attrs attrs), sum_by-cons value_bytes attr attrs))
plain_by attr attrs false is rest = rw is (omega (arith, sum_by-cons value_bytes attr attrs))

plain_values : (attrs : List Attr) → sum_by value_bytes (plain_attrs attrs) ≤ sum_by value_bytes attrs
plain_values [] = omega arith
plain_values (attr ∷ attrs) = plain_by attr attrs (is_plain attr) refl (plain_values attrs)

plain_event : (e : Event) → plain_text e ≤ event_text e
plain_event (event.Start name attrs) = plain_values attrs
plain_event (event.End name) = omega arith
plain_event (event.Chars text) = omega arith
plain_event (event.Pi target body) = omega arith
plain_event (event.Comment text) = omega arith

plain_events : (events : List Event) → sum_by plain_text events ≤ sum_by event_text events
plain_events [] = omega arith
plain_events (e ∷ events) =
    omega (arith, sum_by-cons plain_text e events, sum_by-cons event_text e events, plain_event e, plain_events events)

-- the text of a piece is no longer than the fragment
pub piece_short : (text : List ℕ) → fault_of Fragment text ≡ None → sum_by plain_text (piece_of text) ≤ length text
piece_short text good =
    let front : sum_by event_text (bare (events_unless Fragment text None)) ≤ length text =
    subst (λ found. sum_by event_text (bare (events_unless Fragment text found)) ≤ length text) good (front-text Fragment text) in
    omega (arith, front, plain_events (piece_of text))

pub piece_formed : EventsNest → (text : List ℕ) → fault_of Fragment text ≡ None → names_fault (piece_of text) ≡ None →
    length text ≤ MAX_SCRIPT_BYTES → IsPiece (piece_of text)
piece_formed nest text good names short =
    let all = nest.in_all Fragment text good in
    record {
      fragment = record { nest = all.0; end = all.1 };
      names = names;
      short = omega (arith, piece_short text good);
    }

none_of : {A : Type 0} → (found : Option A) → is_none found ≡ true → found ≡ None
none_of None is = refl
none_of (Some x) is = absurd (cc)

-- what is read of a fragment is a piece
pub formed_from : EventsNest → (text : List ℕ) (piece : List Event) → is_piece text ≡ true → piece ≡ piece_of text →
    length text ≤ MAX_SCRIPT_BYTES → IsPiece piece
formed_from nest text piece good is short =
    let parts = and_parts (is_none (fault_of Fragment text)) (is_none (names_fault (piece_of text))) good in
    subst IsPiece (sym is)
    (piece_formed nest text (none_of (fault_of Fragment text) parts.0) (none_of (names_fault (piece_of text)) parts.1) short)
