-- The cells are touched alike, and the names are the same.
use Rattle.cover_laws.specs.Covering.{spelled_cells}
use Rattle.cover_laws.proofs.HeldLemmas.{held-touched}
use Rattle.cover_laws.proofs.held_is_touched_alike.Goals as goal

pub returns : goal.returns
returns c T U touched held reads form edit alike =
    held-touched T touched held reads alike (c.alike_are_touched_alike.ensures T U touched held.cells (spelled_cells T reads) form edit alike.cells)
