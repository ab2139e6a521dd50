-- No name stands twice, as no word and no key does.
use Rattle.doc_names.proofs.NameLemmas.{names-once}
use Rattle.doc_names.proofs.names.NameTable.laws.Goals as goal

pub returns : goal.returns
returns c = rw (← c.self.view_is) (names-once c.self.inside.words c.self.inside.keys.keys c.laws.ensures c.self.invariant.0 c.self.invariant.1)
