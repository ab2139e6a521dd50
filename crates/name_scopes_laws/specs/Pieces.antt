-- Fragments that are pieces of a document (Namespaces in XML 1.0, section 6).
use Rattle.std.specs.Prelude.{◌≡◌, ℕ, ◌≤◌, List, sum_by, None}
use Rattle.pyx_core.specs.declared.event.Event.{Event}
use Rattle.doc_tree.specs.limits.TheConstants.{MAX_LIVE_TEXT_BYTES}
use Rattle.doc_tree.specs.Laws.{WellFormed}
use Rattle.doc_tree.specs.Scope.{scope_at}
use Rattle.doc_tree.specs.Table.{Table}
use Rattle.name_scopes.specs.Fragments.{IsFragment, ScopedPiece, names_fault, piece_refusal, plain_text}

-- a fragment whose names break no rule, with no more text than a tree may have, has a piece under each node under which no reason
-- keeps it from coming
abbrev pub FragmentsHavePieces : Type 0
FragmentsHavePieces = (T : Table) (p : ℕ) (events : List Event) → WellFormed T → IsFragment events → names_fault events ≡ None →
    sum_by plain_text events ≤ MAX_LIVE_TEXT_BYTES → piece_refusal T p events ≡ None → (P : Table) × WellFormed P × ScopedPiece (scope_at T p) events P
