-- A search finds each word of the table, with its number.
use Rattle.doc_names.proofs.WordLemmas.{word-found, word-absent}
use Rattle.doc_names.proofs.words.WordTable.find.Goals as goal

pub returns-clause-found : goal.returns-clause-found
returns-clause-found c = rw (← c.self.view_is) (word-found c.args.word.now c.self.inside.words.keys c.get_index_of.result c.get_index_of.ensures.index)

pub returns-clause-absent : goal.returns-clause-absent
returns-clause-absent c = rw (← c.self.view_is) (word-absent c.args.word.now c.self.inside.words.keys c.get_index_of.result c.get_index_of.ensures.found)
