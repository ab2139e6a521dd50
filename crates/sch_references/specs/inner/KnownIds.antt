-- The ids of a schema, as they are kept.
use Rattle.std.specs.Prelude.{ℕ, ◌||◌, Bool, List, [], map}
use Rattle.std.specs.List.{flat_map}
use Rattle.sch_model.specs.declared.raw.RawRule.{RawRule}
use Rattle.sch_model.specs.declared.raw.RawSchema.{RawSchema}
use Rattle.sch_references.specs.Extends.{is_named}
use Rattle.sch_references.specs.References.{Known, abstract_id, concrete_id, is_among}
use Rattle.sch_references.specs.declared.ids.Ids.{Ids}

-- the names that pass, and the ids besides
abbrev pub with_ids : (List ℕ → Bool) → List (List ℕ) → List ℕ → Bool
with_ids is_known ids name = is_known name || is_among ids name

abbrev pub known_by : Ids → Known
known_by ids = record {
  is_abstract_rule = is_named ids.rules;
  is_abstract_pattern = is_among ids.abstract_patterns;
  is_pattern = is_among ids.patterns;
  is_phase = is_among ids.phases;
  is_diagnostic = is_among ids.diagnostics;
  is_property = is_among ids.properties;
}

-- what is known of these rules, and of nothing else
abbrev pub no_parts : List RawRule → Known
no_parts rules = record {
  is_abstract_rule = is_named rules;
  is_abstract_pattern = is_among [];
  is_pattern = is_among [];
  is_phase = is_among [];
  is_diagnostic = is_among [];
  is_property = is_among [];
}

-- what is known, and the ids of a schema besides those of its rules
abbrev pub with_parts : Known → RawSchema → Known
with_parts known schema = record {
  is_abstract_rule = known.is_abstract_rule;
  is_abstract_pattern = with_ids known.is_abstract_pattern (flat_map abstract_id schema.patterns);
  is_pattern = with_ids known.is_pattern (flat_map concrete_id schema.patterns);
  is_phase = with_ids known.is_phase (map (λ phase. phase.id) schema.phases);
  is_diagnostic = with_ids known.is_diagnostic (map (λ diagnostic. diagnostic.id) schema.diagnostics);
  is_property = with_ids known.is_property (map (λ property. property.id) schema.properties);
}
