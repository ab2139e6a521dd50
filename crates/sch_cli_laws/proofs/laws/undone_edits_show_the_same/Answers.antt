-- The tree behind an undo is the same but for its numbers, and so is one that is read again.
use Rattle.sch_cli_laws.proofs.Undone.{at-once, runs-undone, saved-alike, undos-same}
use Rattle.sch_cli_laws.proofs.laws.undone_edits_show_the_same.Goals as goal

pub returns : goal.returns
returns c = record {
  undo = undos-same c.edits_keep_trees.ensures c.same_trees_show_the_same.ensures;
  at_once = at-once c.one_edit.ensures c.edits_keep_trees.ensures c.same_trees_show_the_same.ensures;
  run = runs-undone c.one_tree.ensures c.one_inclusion.ensures c.one_plan.ensures c.one_edit.ensures c.edits_keep_trees.ensures c.same_trees_show_the_same.ensures;
  saved = saved-alike c.documents_have_trees.ensures c.text_comes_back.ensures c.saved_documents_show_the_same.ensures;
}
