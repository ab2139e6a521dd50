-- Cells that are told to be equal are one.
use Rattle.std.proofs.Common.{rules}
use Rattle.cell_index.proofs.CellLemmas.{same_on_true}
use Rattle.cell_index.proofs.cell_sets.is_same.Goals as goal

pub returns : goal.returns
returns c = same_on_true _ (λ x y h. search rules) c.eq.result c.args.a.now c.args.b.now c.eq.ensures
