-- The sorted cells without repeats.
use Rattle.std.proofs.Common.{rules}
use Rattle.std.proofs.lemmas.List.Filters.{dedup_is}
use Rattle.cell_index.specs.Cells.{is_cell}
use Rattle.cell_index.proofs.CellLemmas.{any_settled}
use Rattle.cell_index.proofs.cell_list.in_order.Goals as goal

pub returns : goal.returns
returns c = λ cell. any_settled _ (λ x y h. search rules) (is_cell cell) _ _ _ c.sort_unstable.ensures.permutation (dedup_is _ _ _ c.dedup.ensures.filtered)
