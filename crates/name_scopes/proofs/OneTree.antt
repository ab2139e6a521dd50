-- The events of a document have one tree.
use Rattle.std.proofs.Common.{◌≡◌, sym, ◌∙◌}
use Rattle.doc_tree.specs.InOrder.{OneTable}
use Rattle.doc_tree.specs.Laws.{WellFormed, WellFormedIsEnough}
use Rattle.doc_tree.specs.Lines.{lines}
use Rattle.doc_tree.specs.Table.{Table}
use Rattle.name_scopes.specs.ScopedTree.{OneTree}
use Rattle.name_scopes.proofs.ItemTables.{IsTree}
use Rattle.name_scopes.proofs.RoundTripLemmas.{follow}

-- a well-formed table has the laws of a tree
pub is-tree : WellFormedIsEnough → (T : Table) → WellFormed T → IsTree T
is-tree laws T form =
    let held = laws T form in
    record { formed = form; ordered = held.0; ways = held.1; walks = held.2; scopes = held.3 }

pub one-tree : WellFormedIsEnough → OneTable → OneTree
one-tree laws one events T U this other =
    let told : lines T ≡ lines U =
    follow T U (is-tree laws T this.well_formed) (is-tree laws U other.well_formed) this.in_scope other.in_scope (this.lines_are ∙ sym other.lines_are) in
    one T U this.well_formed other.well_formed this.numbered other.numbered told
