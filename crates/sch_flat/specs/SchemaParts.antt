-- A schema by its patterns and what it holds beside them.
use Rattle.std.specs.Prelude.{List}
use Rattle.sch_model.specs.declared.flat.FlatPattern.{FlatPattern}
use Rattle.sch_model.specs.declared.flat.FlatSchema.{FlatSchema}
use Rattle.sch_flat.specs.declared.schema_size.SchemaParts.{SchemaParts}

abbrev pub schema_of : SchemaParts → List FlatPattern → FlatSchema
schema_of parts patterns = record {
  head = parts.head.now;
  ns = parts.ns.now;
  lets = parts.lets.now;
  phases = parts.phases.now;
  patterns = patterns;
  diagnostics = parts.diagnostics.now;
  properties = parts.properties.now;
}
