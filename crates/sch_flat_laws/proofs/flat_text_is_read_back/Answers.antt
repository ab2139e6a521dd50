-- The events nest, so that they are read back.
use Rattle.pyx_core.specs.declared.mode.Mode.TheVariants.{Document}
use Rattle.sch_flat.specs.FlatDocument.{flat_events}
use Rattle.sch_flat_laws.proofs.Document.FlatNestingLemmas.{schema_nests}
use Rattle.sch_flat_laws.proofs.flat_text_is_read_back.Goals as goal

pub returns : goal.returns
returns c = λ schema made apart.
    let nests = schema_nests c.qnames_split.ensures schema made apart in
    c.written_is_read_back.ensures.nested Document (flat_events schema) nests.0 nests.1
