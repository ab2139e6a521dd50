-- What matching depends on: on what it reads, and on nothing else (XSLT 1.0, section 5.2).
use Rattle.std.specs.Prelude.{ℕ, Bool, List, []}
use Rattle.doc_tree.specs.cell.Cell.{Cell}
use Rattle.doc_tree.specs.Table.{Table}
use Rattle.doc_edit_laws.specs.Agreement.{Stays}
use Rattle.xp_typed_tree.specs.TypedTree.{TypedPathTree}
use Rattle.xp_typed_tree.specs.WellTyped.{PathsTyped}
use Rattle.xp_meaning.specs.Evaluation.{Lets}
use Rattle.xp_locality_laws.specs.Locality.{AllKept, Changed, Stands}
use Rattle.xslt_match.specs.Matching.{matching}

-- where a node lives in both trees and all was kept that is read for it in the first, it matches a well typed pattern in
-- both or in neither, by the same reads and at the same cost
abbrev pub PatternsAreLocal : Type 0
PatternsAreLocal =
    (T U : Table) (touched : Cell → Bool) (L M : Lets) (ps : List TypedPathTree) (n : ℕ) → Changed T U touched → PathsTyped ps → Stays T U n →
    AllKept T U touched L M (matching T L ps n).reads → Stands T U (λ _. []) (matching T L ps n) (matching U M ps n)
