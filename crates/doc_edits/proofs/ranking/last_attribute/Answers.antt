-- The last of the attributes.
use Rattle.doc_table.specs.Table.{attrs_of}
use Rattle.doc_table.specs.inner.Parts.{table_of}
use Rattle.doc_edits.proofs.SpreadLemmas.{last-is}
use Rattle.doc_edits.proofs.ranking.last_attribute.Goals as goal

pub returns-in-Some : goal.returns-in-Some
returns-in-Some c = last-is c.args.n c.in-Some.attribute.now (attrs_of (table_of c.args.bare.now) c.args.n) (rw c.attrs.ensures at c.in-Some.ensures.value)
