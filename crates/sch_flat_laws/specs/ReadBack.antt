-- The tree of a flat schema's document reads as the schema, but for the places where its parts stand.
use Rattle.std.specs.Prelude.{◌≡◌, map}
use Rattle.doc_tree.specs.Table.{Table}
use Rattle.name_scopes.specs.ScopedTree.{Scoped}
use Rattle.sch_model.specs.declared.flat.FlatSchema.{FlatSchema}
use Rattle.sch_model.specs.declared.raw.RawSchema.{RawSchema}
use Rattle.sch_rules.specs.RawSchema.{raw_schema}
use Rattle.sch_flat.specs.FlatDocument.{flat_events}
use Rattle.sch_flat_laws.specs.Expansion.{raw_of}
use Rattle.sch_model.specs.Placeless.{placeless_let, placeless_ns, placeless_phase, placeless_schema}
use Rattle.sch_flat_laws.specs.Readable.{ReadableSchema}

-- what a schema says of itself, its prefixes, its lets and its phases are the same but for places
pub record SameFront (schema : FlatSchema) (raw : RawSchema) : Type 0 where
  pub version : raw.head.schema_version ≡ schema.head.schema_version
  pub default_phase : raw.head.default_phase ≡ schema.head.default_phase
  pub ns : map placeless_ns raw.ns ≡ map placeless_ns schema.ns
  pub lets : map placeless_let raw.lets ≡ map placeless_let schema.lets
  pub phases : map placeless_phase raw.phases ≡ map placeless_phase schema.phases

abbrev pub FrontIsReadBack : Type 0
FrontIsReadBack = (schema : FlatSchema) (T : Table) → Scoped (flat_events schema) T → SameFront schema (raw_schema T)

-- the tree of a schema's document says the schema, and only the places of its parts differ
abbrev pub FlatSchemasAreReadBack : Type 0
FlatSchemasAreReadBack = (schema : FlatSchema) (T : Table) → Scoped (flat_events schema) T → ReadableSchema schema →
    placeless_schema (raw_schema T) ≡ placeless_schema (raw_of schema)
