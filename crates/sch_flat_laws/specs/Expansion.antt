-- A schema without abstract parts is its own expansion.
use Rattle.std.specs.Prelude.{◌≡◌, true, false, [], ◌++◌, None, Some, map}
use Rattle.sch_model.specs.declared.flat.FlatPattern.{FlatPattern}
use Rattle.sch_model.specs.declared.flat.FlatRule.{FlatRule}
use Rattle.sch_model.specs.declared.flat.FlatSchema.{FlatSchema}
use Rattle.sch_model.specs.declared.raw.RawItem.TheVariants.{Let, Assertion}
use Rattle.sch_model.specs.declared.raw.RawPattern.{RawPattern}
use Rattle.sch_model.specs.declared.raw.RawRule.{RawRule}
use Rattle.sch_model.specs.declared.raw.RawSchema.{RawSchema}
use Rattle.sch_flat_laws.specs.Concrete.{is_concrete}
use Rattle.sch_expansion.specs.Flat.{flat_schema}

-- what is said of a rule in the document: its lets, then its assertions
abbrev pub raw_rule : FlatRule → RawRule
raw_rule rule = record {
  node = rule.node;
  is_abstract = false;
  id = rule.id;
  context = Some rule.context;
  subject = rule.subject;
  role = rule.role;
  flag = rule.flag;
  items = map (λ decl. Let decl) rule.lets ++ map (λ assertion. Assertion assertion) rule.assertions;
}

abbrev pub raw_pattern : FlatPattern → RawPattern
raw_pattern pattern = record {
  node = pattern.node;
  is_abstract = false;
  id = pattern.id;
  is_a = None;
  params = [];
  lets = pattern.lets;
  rules = map raw_rule pattern.rules;
}

-- the schema that its document says, with the same places
abbrev pub raw_of : FlatSchema → RawSchema
raw_of schema = record {
  head = schema.head;
  ns = schema.ns;
  lets = schema.lets;
  phases = schema.phases;
  patterns = map raw_pattern schema.patterns;
  diagnostics = schema.diagnostics;
  properties = schema.properties;
}

-- it has no abstract parts, and is expanded to the same schema
pub record IsOwnExpansion (schema : FlatSchema) : Type 0 where
  pub concrete : is_concrete (raw_of schema) ≡ true
  pub expanded : flat_schema (raw_of schema) ≡ schema

abbrev pub FlatSchemasStay : Type 0
FlatSchemasStay = (schema : FlatSchema) → IsOwnExpansion schema
