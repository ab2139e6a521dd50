-- What the root, the ways up and the texts follow gives axes and string-values, and these all expressions.
use Rattle.xp_iso_laws.proofs.AxisLemmas.{cells_of-moved}
use Rattle.xp_iso_laws.proofs.MeaningLemmas.{expressions-move, predicates-move, steps-move}
use Rattle.xp_iso_laws.proofs.expressions_move.Goals as goal

pub returns : goal.returns
returns c = record {
  expressions = expressions-move c.renumbered_trees_hang.ensures;
  steps = steps-move c.renumbered_trees_hang.ensures;
  predicates = predicates-move c.renumbered_trees_hang.ensures;
  cells = λ f T U x sound other r. cells_of-moved f T U r (c.renumbered_trees_hang.ensures f T U sound other r) x;
}
