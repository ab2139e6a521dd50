-- The events of a fragment are those of one piece, where the declarations around it are given.
use Rattle.std.proofs.Common.{◌≡◌, List, sym, ◌∙◌}
use Rattle.pyx_core.specs.declared.event.Event.{Event}
use Rattle.doc_tree.specs.InOrder.{OneTable}
use Rattle.doc_tree.specs.Laws.{WellFormed, WellFormedIsEnough}
use Rattle.doc_tree.specs.Lines.{lines}
use Rattle.doc_tree.specs.Scope.{Decl}
use Rattle.doc_tree.specs.Table.{Table}
use Rattle.name_scopes.specs.Fragments.{ScopedPiece}
use Rattle.name_scopes.proofs.OneTree.{is-tree}
use Rattle.name_scopes.proofs.RoundTripLemmas.{follow-within}

pub one-piece : WellFormedIsEnough → OneTable → (around : List Decl) (events : List Event) (P Q : Table) → WellFormed P → WellFormed Q →
    ScopedPiece around events P → ScopedPiece around events Q → P ≡ Q
one-piece laws one around events P Q this_form other_form this other =
    let told : lines P ≡ lines Q =
    follow-within around P Q (is-tree laws P this_form) (is-tree laws Q other_form) this.in_scope other.in_scope
    (this.lines_are ∙ sym other.lines_are) in
    one P Q this_form other_form this.numbered other.numbered told
