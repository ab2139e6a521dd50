-- What the patterns of a schema amount to, and the lets beside them.
use Rattle.std.specs.Prelude.{ℕ, List, Option, None, Some, length, if◌then◌else◌}
use Rattle.sch_model.specs.declared.flat.FlatPattern.{FlatPattern}
use Rattle.sch_model.specs.declared.flat.FlatSchema.{FlatSchema}
use Rattle.sch_model.specs.declared.parts.Phase.{Phase}
use Rattle.sch_model.specs.declared.raw.RawPattern.{RawPattern}
use Rattle.sch_model.specs.declared.raw.RawSchema.{RawSchema}
use Rattle.sch_expansion.specs.Flat.{flat_pattern, pattern_among}
use Rattle.sch_sizes.specs.declared.amount.Amount.{Amount}
use Rattle.sch_sizes.specs.inner.Amounts.{cap, many, nothing, plus, sum_all}
use Rattle.sch_sizes.specs.inner.Sums.{flat_amount, pattern_found}
use Rattle.sch_sizes.specs.inner.Weights.{FlatWeights, Weights}
use Rattle.sch_sizes.specs.Sizes.{all_assertions, all_lets, all_rules}

-- the pattern whose lets and rules a pattern has
abbrev pub origin_by : List RawPattern → RawPattern → Option (List ℕ) → Option RawPattern
origin_by patterns pattern None = Some pattern
origin_by patterns pattern (Some name) = pattern_among patterns name

-- a pattern with the lets and rules of another one, or bare
abbrev pub found_from : Weights → (List ℕ → Amount) → RawPattern → Option RawPattern → Amount
found_from weights look pattern None = cap (weights.pattern_weight pattern)
found_from weights look pattern (Some origin) = pattern_found weights look pattern origin

-- a pattern that isn't abstract, among the patterns of its schema
abbrev pub concrete_found : Weights → (List ℕ → Amount) → List RawPattern → RawPattern → Amount
concrete_found weights look patterns pattern =
    if pattern.is_abstract then nothing else found_from weights look pattern (origin_by patterns pattern pattern.is_a)

-- what a pattern is meant to amount to
abbrev pub concrete_meant : FlatWeights → RawSchema → RawPattern → Amount
concrete_meant weights schema pattern = if pattern.is_abstract then nothing else flat_amount weights (flat_pattern schema pattern)

-- the lets of phases, and of a schema beside its patterns
abbrev pub phase_lets : Phase → Amount
phase_lets phase = many 0 0 (length phase.lets)

abbrev pub base_counts : RawSchema → Amount
base_counts schema = cap (plus (many 0 0 (length schema.lets)) (cap (sum_all phase_lets schema.phases)))

-- the counts of a schema without abstract parts
abbrev pub schema_counts : FlatSchema → Amount
schema_counts schema = many (length (all_rules schema)) (length (all_assertions schema)) (length (all_lets schema))

-- a schema with these patterns and without abstract parts
abbrev pub with_patterns : RawSchema → List FlatPattern → FlatSchema
with_patterns schema patterns = record {
  head = schema.head;
  ns = schema.ns;
  lets = schema.lets;
  phases = schema.phases;
  patterns = patterns;
  diagnostics = schema.diagnostics;
  properties = schema.properties;
}
