-- The keys before a place spell the names before it, and each still stands once.
use Rattle.std.proofs.Common.{sym, length}
use Rattle.std.proofs.lemmas.List.{take-map}
use Rattle.doc_names.proofs.NameLemmas.{below-taken}
use Rattle.doc_names.proofs.NumberLemmas.{once-taken}
use Rattle.doc_names.specs.inner.Keys.{spelled}
use Rattle.doc_names.proofs.names.NameTable.cut.Goals as goal

pub invariant_of-self : goal.invariant_of-self
invariant_of-self c =
    rw c.truncate.ensures.keys
    (once-taken c.args.len c.self.inside.keys.keys c.self.invariant.0, below-taken (length c.self.inside.words) c.args.len c.self.inside.keys.keys c.self.invariant.1)

pub returns : goal.returns
returns c =
    rw (← c.self.view_is, c.truncate.ensures.keys) (sym (take-map (spelled c.self.inside.words) c.args.len c.self.inside.keys.keys))
