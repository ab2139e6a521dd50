-- Patterns by the rules in their order are patterns by the rules of the schema.
use Rattle.std.proofs.Common.{◌≡◌, ℕ, List, Option, None, Some, refl, ap, map}
use Rattle.std.specs.List.{flat_map}
use Rattle.sch_model.specs.declared.flat.FlatPattern.{FlatPattern}
use Rattle.sch_model.specs.declared.raw.RawItem.{RawItem}
use Rattle.sch_model.specs.declared.raw.RawPattern.{RawPattern}
use Rattle.sch_model.specs.declared.raw.RawRule.{RawRule}
use Rattle.sch_model.specs.declared.raw.RawSchema.{RawSchema}
use Rattle.sch_references.specs.Extends.{abstract_rules}
use Rattle.sch_references.specs.Order.{IsOrderOf}
use Rattle.sch_expansion.specs.Filled.{filled}
use Rattle.sch_expansion.specs.Flat.{concrete_rules, flat_pattern, flat_pattern_by, instance_of, let_with, pattern_among, pattern_from, rule_with}
use Rattle.sch_expansion.specs.Stands.{replaced}
use Rattle.sch_expansion.specs.inner.FlatBy.{flat_as, flat_by}
use Rattle.sch_expansion.proofs.LevelLemmas.{stands-ordered}

-- a pattern by what rules stand for
abbrev from_stands : (List ℕ → List ℕ) → RawPattern → RawPattern → (List ℕ → List RawItem) → FlatPattern
from_stands change pattern origin stands = record {
  node = pattern.node;
  id = pattern.id;
  lets = map (let_with change) origin.lets;
  rules = map (λ rule. rule_with change rule (flat_map (replaced stands) rule.items)) (concrete_rules origin);
}

from-ordered : (rules ordered : List RawRule) (change : List ℕ → List ℕ) (pattern origin : RawPattern) → IsOrderOf rules ordered →
    pattern_from ordered change pattern origin ≡ pattern_from rules change pattern origin
from-ordered rules ordered change pattern origin order = ap (from_stands change pattern origin) (stands-ordered rules ordered order)

instance-ordered : (rules ordered : List RawRule) (pattern : RawPattern) (origin : Option RawPattern) → IsOrderOf rules ordered →
    instance_of ordered pattern origin ≡ instance_of rules pattern origin
instance-ordered rules ordered pattern None order = refl
instance-ordered rules ordered pattern (Some origin) order = from-ordered rules ordered (filled pattern.params) pattern origin order

flat-as : (schema : RawSchema) (ordered : List RawRule) (pattern : RawPattern) (is_a : Option (List ℕ)) → IsOrderOf (abstract_rules schema) ordered →
    flat_as ordered schema.patterns pattern is_a ≡ flat_pattern_by schema pattern is_a
flat-as schema ordered pattern None order = from-ordered (abstract_rules schema) ordered (λ text. text) pattern pattern order
flat-as schema ordered pattern (Some name) order = instance-ordered (abstract_rules schema) ordered pattern (pattern_among schema.patterns name) order

pub flat-ordered : (schema : RawSchema) (ordered : List RawRule) (patterns : List RawPattern) → IsOrderOf (abstract_rules schema) ordered →
    map (flat_by ordered schema.patterns) patterns ≡ map (flat_pattern schema) patterns
flat-ordered schema ordered patterns order = ap (λ f. map f patterns) (λ t pattern. flat-as schema ordered pattern pattern.is_a order t)
