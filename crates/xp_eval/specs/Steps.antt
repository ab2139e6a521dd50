-- The meaning of a step as the program keeps it.
use Rattle.doc_tree.specs.Table.{Table}
use Rattle.xp_typed_tree.specs.declared.expr.TypedStep.{TypedStep, out-TypedStep}
use Rattle.xp_typed_tree.specs.TypedView.{typed_seen}
use Rattle.xp_meaning.specs.Paths.{Step}
use Rattle.xp_meaning.specs.Evaluation.{Lets, meanings}

abbrev pub step_meant : Table → Lets → TypedStep → Step
step_meant T L s = record {
  axis = (out-TypedStep s).axis;
  test = (out-TypedStep s).test;
  predicates = meanings T L (typed_seen (out-TypedStep s).predicates.items);
}
