-- Other ranks change nothing that is seen.
use Rattle.doc_table.specs.Walks.{order}
use Rattle.doc_table.specs.inner.Parts.{table_of}
use Rattle.doc_edits.proofs.RankingLemmas.{table-ranked}
use Rattle.doc_edits.proofs.reranking.settle.Goals as goal

pub returns-then-spread-eq0-clause-table : goal.returns-then-spread-eq0-clause-table
returns-then-spread-eq0-clause-table c = table-ranked c.args.bare.now c.rank_anew.new.bare 0 (order (table_of c.args.bare.now)) c.rank_anew.ensures
