-- The abstract rules of a schema, and those that they extend (ISO/IEC 19757-3, section 5.4.5). An `extends` may name an abstract
-- rule of any pattern.
use Rattle.std.specs.Prelude.{ℕ, Bool, false, List, [], ◌∷◌, Option, None, Some, filter, if◌then◌else◌}
use Rattle.std.specs.List.{flat_map, list_any}
use Rattle.std.specs.Str.{bytes_eq}
use Rattle.sch_model.specs.Items.{extended_in}
use Rattle.sch_model.specs.declared.raw.RawItem.{RawItem}
use Rattle.sch_model.specs.declared.raw.RawRule.{RawRule}
use Rattle.sch_model.specs.declared.raw.RawSchema.{RawSchema}

-- the abstract rules of a schema, in document order
abbrev pub abstract_rules : RawSchema → List RawRule
abstract_rules schema = filter (λ rule. rule.is_abstract) (flat_map (λ pattern. pattern.rules) schema.patterns)

-- whether there is an id and it is this name
abbrev pub is_id : List ℕ → Option (List ℕ) → Bool
is_id name None = false
is_id name (Some id) = bytes_eq name id

-- whether one of the rules has this id
abbrev pub is_named : List RawRule → List ℕ → Bool
is_named rules name = list_any (λ rule. is_id name rule.id) rules

-- the items of the rule with this id
abbrev pub items_named : List RawRule → List ℕ → List RawItem
items_named [] name = []
items_named (rule ∷ rules) name = if is_id name rule.id then rule.items else items_named rules name

-- the names that the rule with this id extends
abbrev pub extended_by : List RawRule → List ℕ → List (List ℕ)
extended_by rules name = flat_map extended_in (items_named rules name)
