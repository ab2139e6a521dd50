-- What holds of watches over edits.
use Rattle.std.specs.Prelude.{◌≡◌, Bool, false, List}
use Rattle.doc_tree.specs.cell.Cell.{Cell}
use Rattle.doc_tree.specs.Laws.{WellFormed}
use Rattle.doc_tree.specs.Table.{Table}
use Rattle.doc_edit_laws.specs.Along.{Edit, Edits}
use Rattle.xp_typed_tree.specs.TypedTree.{TypedTree}
use Rattle.xp_meaning_laws.specs.KnownReads.{CellsReadAreLive}
use Rattle.xp_watch.specs.Kept.{IsFresh, IsRight, Kept, Marks, stale_watches}
use Rattle.xp_watch.specs.Watched.{dirty_watches, is_dirty, watched}

-- an expression none of whose reads was touched by edits gives, reads and costs the same in the tree that they make
abbrev pub CleanWatchesStand : Type 0
CleanWatchesStand =
    (T U : Table) (touched : Cell → Bool) (expr : TypedTree) → WellFormed T → Edits T U touched → is_dirty T touched expr ≡ false →
    watched U expr ≡ watched T expr

-- an edit keeps what is kept right
abbrev pub EditsKeep : Type 0
EditsKeep =
    (T U : Table) (touched : Cell → Bool) (exprs : List TypedTree) (old new : Kept) → WellFormed T → Edit T U touched → CellsReadAreLive T →
    CellsReadAreLive U → IsRight T exprs old → Marks T touched old new → IsRight U exprs new

-- after an edit of a tree over which all watches were done just the dirty ones are stale
abbrev pub DirtyAreStale : Type 0
DirtyAreStale =
    (T U : Table) (touched : Cell → Bool) (exprs : List TypedTree) (old new : Kept) → WellFormed T → Edit T U touched → IsFresh T exprs old →
    Marks T touched old new → stale_watches new exprs ≡ dirty_watches T touched exprs
