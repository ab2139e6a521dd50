-- The rules on names that a schema refers to, each at the element that has the attribute.
use Rattle.std.specs.Prelude.{ℕ, Bool, not, List, [], ◌∷◌, ◌++◌, Option, None, Some, codes, map, if◌then◌else◌}
use Rattle.std.specs.List.{flat_map, list_any}
use Rattle.std.specs.Option.{option_to_list}
use Rattle.std.specs.Str.{bytes_eq}
use Rattle.sch_model.specs.declared.parts.Active.{Active}
use Rattle.sch_model.specs.declared.parts.Assertion.{Assertion}
use Rattle.sch_model.specs.declared.parts.Head.{Head}
use Rattle.sch_model.specs.declared.parts.Phase.{Phase}
use Rattle.sch_model.specs.declared.raw.RawItem.{RawItem}
use Rattle.sch_model.specs.declared.raw.RawItem.TheVariants as item
use Rattle.sch_model.specs.declared.raw.RawPattern.{RawPattern}
use Rattle.sch_model.specs.declared.raw.RawRule.{RawRule}
use Rattle.sch_model.specs.declared.raw.RawSchema.{RawSchema}
use Rattle.sch_references.specs.Cycles.{leads_back}
use Rattle.sch_references.specs.Extends.{abstract_rules, is_named}
use Rattle.sch_references.specs.Places.{Place}
use Rattle.sch_rules.specs.Rules.{name_if}

-- whether the name is one of the ids
abbrev pub is_among : List (List ℕ) → List ℕ → Bool
is_among ids name = list_any (bytes_eq name) ids

-- which names a schema has: ids of abstract rules, of abstract patterns and of those that aren't, of phases, of diagnostics, and
-- of properties
pub record Known : Type 0 where
  pub is_abstract_rule : List ℕ → Bool
  pub is_abstract_pattern : List ℕ → Bool
  pub is_pattern : List ℕ → Bool
  pub is_phase : List ℕ → Bool
  pub is_diagnostic : List ℕ → Bool
  pub is_property : List ℕ → Bool

abbrev pub abstract_id : RawPattern → List (List ℕ)
abstract_id pattern = if pattern.is_abstract then option_to_list pattern.id else []

abbrev pub concrete_id : RawPattern → List (List ℕ)
concrete_id pattern = if pattern.is_abstract then [] else option_to_list pattern.id

abbrev pub known_in : RawSchema → Known
known_in schema = record {
  is_abstract_rule = is_named (abstract_rules schema);
  is_abstract_pattern = is_among (flat_map abstract_id schema.patterns);
  is_pattern = is_among (flat_map concrete_id schema.patterns);
  is_phase = is_among (map (λ phase. phase.id) schema.phases);
  is_diagnostic = is_among (map (λ diagnostic. diagnostic.id) schema.diagnostics);
  is_property = is_among (map (λ property. property.id) schema.properties);
}

-- 10: an `extends` names no abstract rule
abbrev pub unknown_rule : Known → List ℕ → Option (List ℕ)
unknown_rule known name = name_if (not (known.is_abstract_rule name)) name

-- 11: an `extends` of a rule lies on a cycle, among these abstract rules
abbrev pub cyclic_rule : List RawRule → RawRule → List ℕ → Option (List ℕ)
cyclic_rule rules rule name = name_if (leads_back rules rule name) name

-- 12: `is-a` names no abstract pattern
abbrev pub unknown_origin : Known → Option (List ℕ) → Option (List ℕ)
unknown_origin known None = None
unknown_origin known (Some name) = name_if (not (known.is_abstract_pattern name)) name

-- 13: an `active` names no pattern that isn't abstract
abbrev pub unknown_pattern : Known → Active → Option (List ℕ)
unknown_pattern known active = name_if (not (known.is_pattern active.pattern)) active.pattern

-- 14: the default phase is neither `#ALL` nor the id of a phase
abbrev pub unknown_phase : Known → Option (List ℕ) → Option (List ℕ)
unknown_phase known None = None
unknown_phase known (Some name) = if bytes_eq name (codes "#ALL") then None else name_if (not (known.is_phase name)) name

-- the first of some names that isn't known
abbrev pub first_unknown : (List ℕ → Bool) → List (List ℕ) → Option (List ℕ)
first_unknown is_known [] = None
first_unknown is_known (name ∷ names) = if is_known name then first_unknown is_known names else Some name

-- 15: the first name of a diagnostic that isn't there
abbrev pub unknown_diagnostic : Known → List (List ℕ) → Option (List ℕ)
unknown_diagnostic known names = first_unknown known.is_diagnostic names

-- 32: the first name of a property that isn't there
abbrev pub unknown_property : Known → List (List ℕ) → Option (List ℕ)
unknown_property known names = first_unknown known.is_property names

-- the places of a schema at which these rules can be broken
abbrev pub head_place : Known → Head → Place
head_place known head = record { node = head.node; rules = (14, unknown_phase known head.default_phase) ∷ [] }

abbrev pub active_place : Known → Active → Place
active_place known active = record { node = active.node; rules = (13, unknown_pattern known active) ∷ [] }

abbrev pub phase_places : Known → Phase → List Place
phase_places known phase = map (active_place known) phase.active

abbrev pub assertion_place : Known → Assertion → Place
assertion_place known assertion = record {
  node = assertion.node;
  rules = (15, unknown_diagnostic known assertion.diagnostics) ∷ (32, unknown_property known assertion.properties) ∷ [];
}

abbrev pub extends_place : Known → List RawRule → RawRule → ℕ → List ℕ → Place
extends_place known rules rule node name =
    record { node = node; rules = (10, unknown_rule known name) ∷ (11, cyclic_rule rules rule name) ∷ [] }

-- those of an item of a rule
abbrev pub item_places : Known → List RawRule → RawRule → RawItem → List Place
item_places known rules rule (item.Let _) = []
item_places known rules rule (item.Assertion assertion) = assertion_place known assertion ∷ []
item_places known rules rule (item.Extends node name) = extends_place known rules rule node name ∷ []

abbrev pub rule_places : Known → List RawRule → RawRule → List Place
rule_places known rules rule = flat_map (item_places known rules rule) rule.items

abbrev pub origin_place : Known → RawPattern → Place
origin_place known pattern = record { node = pattern.node; rules = (12, unknown_origin known pattern.is_a) ∷ [] }

abbrev pub pattern_places : Known → List RawRule → RawPattern → List Place
pattern_places known rules pattern = origin_place known pattern ∷ flat_map (rule_places known rules) pattern.rules

abbrev pub places_with : Known → List RawRule → RawSchema → List Place
places_with known rules schema = head_place known schema.head
    ∷ (flat_map (phase_places known) schema.phases ++ flat_map (pattern_places known rules) schema.patterns)

abbrev pub reference_places : RawSchema → List Place
reference_places schema = places_with (known_in schema) (abstract_rules schema) schema
