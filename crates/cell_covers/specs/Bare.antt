-- Sets of cells none of which covers another.
use Rattle.std.specs.Prelude.{◌≡◌, ◌≢◌, true, false}
use Rattle.std.specs.FinSet.{contains}
use Rattle.doc_tree.specs.cell.Cell.{Cell}
use Rattle.doc_tree.specs.Table.{Table}
use Rattle.xp_outcome.specs.Recorded.{CellSet}
use Rattle.cover_laws.specs.Covering.{covers}

abbrev pub IsBare : Table → CellSet → Type 0
IsBare T cells = (d c : Cell) → contains cells d ≡ true → contains cells c ≡ true → d ≢ c → covers T d c ≡ false
