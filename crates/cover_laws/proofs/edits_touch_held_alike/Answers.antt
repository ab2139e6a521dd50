-- The cells are touched alike, since they are of live nodes too where they are spelled out.
use Rattle.doc_table.proofs.Forests.{formed-of}
use Rattle.doc_table.proofs.TreeLaws.{ordered}
use Rattle.cover_laws.specs.Covering.{spelled_cells}
use Rattle.cover_laws.proofs.HeldLemmas.{held-touched, spelled-live}
use Rattle.cover_laws.proofs.edits_touch_held_alike.Goals as goal

pub returns : goal.returns
returns c T U touched held reads form edits live alike =
    held-touched T touched held reads alike
    (c.edits_touch_alike.ensures T U touched held.cells (spelled_cells T reads) form edits
    (spelled-live T (ordered T (formed-of T form)) reads live.cells) alike.cells)
