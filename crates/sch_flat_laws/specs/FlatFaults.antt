-- The text of the document of a schema breaks no rule of documents.
use Rattle.std.specs.Prelude.{◌≡◌, true, None}
use Rattle.pyx_core.specs.declared.mode.Mode.TheVariants.{Document}
use Rattle.pyx_core.specs.Written.{Gives, text_of}
use Rattle.name_scopes.specs.DocFaults.{doc_fault}
use Rattle.sch_model.specs.declared.flat.FlatSchema.{FlatSchema}
use Rattle.sch_flat.specs.FlatDocument.{flat_events}
use Rattle.sch_flat.specs.FlatSize.{is_small}

-- the text of a flat schema's document, where it is read back and is no larger than a document may be, has no fault
abbrev pub FlatTextsHaveNoFault : Type 0
FlatTextsHaveNoFault = (schema : FlatSchema) →
    Gives Document (text_of (flat_events schema)) (flat_events schema) → is_small schema ≡ true → doc_fault (text_of (flat_events schema)) ≡ None
