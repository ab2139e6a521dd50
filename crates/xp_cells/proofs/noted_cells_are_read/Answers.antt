-- Once some reads were noted, the cells that are held are theirs.
use Rattle.xp_cells.proofs.CellLemmas.{noted_are_read}
use Rattle.xp_cells.proofs.noted_cells_are_read.Goals as goal

pub returns : goal.returns
returns c = noted_are_read
