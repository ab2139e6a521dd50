-- A flat schema's document, read and expanded again.
use Rattle.std.specs.Prelude.{◌≡◌}
use Rattle.doc_tree.specs.Table.{Table}
use Rattle.name_scopes.specs.ScopedTree.{Scoped}
use Rattle.sch_model.specs.declared.flat.FlatSchema.{FlatSchema}
use Rattle.sch_expansion.specs.Flat.{flat_schema}
use Rattle.sch_model.specs.Placeless.{placeless_flat}
use Rattle.sch_rules.specs.RawSchema.{raw_schema}
use Rattle.sch_flat.specs.FlatDocument.{flat_events}
use Rattle.sch_flat_laws.specs.Readable.{ReadableSchema}

-- what is read of the document is expanded to the schema of which it was made; only the places of its parts differ
abbrev pub ExpansionStays : Type 0
ExpansionStays = (schema : FlatSchema) (T : Table) → Scoped (flat_events schema) T → ReadableSchema schema →
    placeless_flat (flat_schema (raw_schema T)) ≡ placeless_flat schema
