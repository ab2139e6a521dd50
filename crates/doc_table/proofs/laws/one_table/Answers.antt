-- The lines tell the forest, and the forest with the lines tells each entry.
use Rattle.doc_table.proofs.OneTable.{one-table}
use Rattle.doc_table.proofs.laws.one_table.Goals as goal

pub returns : goal.returns
returns c = one-table
