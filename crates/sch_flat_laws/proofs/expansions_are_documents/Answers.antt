-- Its texts are made of Chars, and no two of them meet.
use Rattle.sch_rules.specs.RawSchema.{raw_schema}
use Rattle.sch_expansion.specs.Flat.{flat_schema}
use Rattle.sch_flat_laws.proofs.Rules.JoinedAgain.{joined_again}
use Rattle.sch_flat_laws.proofs.Rules.MadeParts.{document_made}
use Rattle.sch_flat_laws.proofs.Rules.Readable.{readable}
use Rattle.sch_flat_laws.proofs.expansions_are_documents.Goals as goal

pub returns : goal.returns
returns c = λ T made.
    let schema = flat_schema (raw_schema T) in
    let good = readable T made c.ids_are_read_back.ensures c.texts_stand_apart.ensures in
    c.flat_text_is_read_back.ensures schema (document_made T made) (c.texts_stand_apart.ensures.written schema (joined_again schema good))
