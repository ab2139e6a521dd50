-- Commands go on over a document that is the same, and come to one end.
use Rattle.history_laws.proofs.HistoryLemmas.{histories-stand}
use Rattle.history_laws.proofs.histories_stand.Goals as goal

pub returns : goal.returns
returns c =
    histories-stand c.edits_keep_trees.ensures c.scripts_go_on.ensures c.same_lines_same_tree.ensures c.same_tree_same_lines.ensures c.one_edit.ensures
