use Rattle.cell_index.proofs.cell_sets.CellSets.find.Given as goal

abbrev pub decreases-loop-link : goal.decreases-loop-link
decreases-loop-link l = l.number
