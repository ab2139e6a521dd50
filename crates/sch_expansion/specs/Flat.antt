-- The schema without abstract parts that a schema is (ISO/IEC 19757-3, section 5.4): each `extends` is replaced by what the
-- abstract rule stands for, each instance takes the lets and rules of its abstract pattern with the parameters replaced, and
-- what is abstract is left out. Each rule has its lets in order and its assertions in order; a missing context reads as the
-- empty text.
use Rattle.std.specs.Prelude.{ℕ, not, ◌&&◌, List, [], ◌∷◌, Option, None, Some, filter, find, map, option_map}
use Rattle.std.specs.List.{flat_map}
use Rattle.std.specs.Option.{option_map_or}
use Rattle.sch_model.specs.declared.flat.FlatPattern.{FlatPattern}
use Rattle.sch_model.specs.declared.flat.FlatRule.{FlatRule}
use Rattle.sch_model.specs.declared.flat.FlatSchema.{FlatSchema}
use Rattle.sch_model.specs.declared.parts.Assertion.{Assertion}
use Rattle.sch_model.specs.declared.parts.LetDecl.{LetDecl}
use Rattle.sch_model.specs.declared.parts.Part.{Part}
use Rattle.sch_model.specs.declared.parts.Part.TheVariants.{Chars, ValueOf, Name}
use Rattle.sch_model.specs.declared.raw.RawItem.{RawItem}
use Rattle.sch_model.specs.declared.raw.RawItem.TheVariants as item
use Rattle.sch_model.specs.declared.raw.RawPattern.{RawPattern}
use Rattle.sch_model.specs.declared.raw.RawRule.{RawRule}
use Rattle.sch_model.specs.declared.raw.RawSchema.{RawSchema}
use Rattle.sch_expansion.specs.Filled.{filled}
use Rattle.sch_expansion.specs.Stands.{replaced, stands_for}
use Rattle.sch_references.specs.Extends.{abstract_rules, is_id}

-- the let that an item is, and the assertion
abbrev pub let_in : RawItem → List LetDecl
let_in (item.Let its) = its ∷ []
let_in (item.Assertion _) = []
let_in (item.Extends _ _) = []

abbrev pub assertion_in : RawItem → List Assertion
assertion_in (item.Let _) = []
assertion_in (item.Assertion its) = its ∷ []
assertion_in (item.Extends _ _) = []

abbrev pub text_or_empty : Option (List ℕ) → List ℕ
text_or_empty text = option_map_or (λ its. its) text []

-- parts of a schema with their expressions changed
abbrev pub let_with : (List ℕ → List ℕ) → LetDecl → LetDecl
let_with change decl = record decl { value = change decl.value }

abbrev pub part_with : (List ℕ → List ℕ) → Part → Part
part_with change (Chars characters) = Chars characters
part_with change (ValueOf node select) = ValueOf node (change select)
part_with change (Name node path) = Name node (option_map change path)

abbrev pub assertion_with : (List ℕ → List ℕ) → Assertion → Assertion
assertion_with change assertion =
    record assertion { test = change assertion.test; subject = option_map change assertion.subject; message = map (part_with change) assertion.message }

-- a rule with these items in the place of its own, and its expressions changed
abbrev pub rule_with : (List ℕ → List ℕ) → RawRule → List RawItem → FlatRule
rule_with change rule items = record {
  node = rule.node;
  id = rule.id;
  context = change (text_or_empty rule.context);
  subject = option_map change rule.subject;
  role = rule.role;
  flag = rule.flag;
  lets = map (let_with change) (flat_map let_in items);
  assertions = map (assertion_with change) (flat_map assertion_in items);
}

-- a rule with each `extends` replaced
abbrev pub flat_rule : List RawRule → (List ℕ → List ℕ) → RawRule → FlatRule
flat_rule rules change rule = rule_with change rule (flat_map (replaced (stands_for rules)) rule.items)

-- the rules of a pattern that aren't abstract
abbrev pub concrete_rules : RawPattern → List RawRule
concrete_rules pattern = filter (λ rule. not rule.is_abstract) pattern.rules

-- a pattern with the lets and the concrete rules of another one, or its own
abbrev pub pattern_from : List RawRule → (List ℕ → List ℕ) → RawPattern → RawPattern → FlatPattern
pattern_from rules change pattern origin = record {
  node = pattern.node;
  id = pattern.id;
  lets = map (let_with change) origin.lets;
  rules = map (flat_rule rules change) (concrete_rules origin);
}

-- a pattern without lets and rules
abbrev pub bare_pattern : RawPattern → FlatPattern
bare_pattern pattern = record { node = pattern.node; id = pattern.id; lets = []; rules = [] }

-- the abstract pattern with this id among patterns
abbrev pub pattern_among : List RawPattern → List ℕ → Option RawPattern
pattern_among patterns name = find (λ pattern. pattern.is_abstract && is_id name pattern.id) patterns

-- and in a schema
abbrev pub pattern_named : RawSchema → List ℕ → Option RawPattern
pattern_named schema name = pattern_among schema.patterns name

-- an instance, by its abstract pattern; one of none has no lets and no rules
abbrev pub instance_of : List RawRule → RawPattern → Option RawPattern → FlatPattern
instance_of rules pattern None = bare_pattern pattern
instance_of rules pattern (Some origin) = pattern_from rules (filled pattern.params) pattern origin

-- a pattern that names an abstract pattern is an instance of it, and another one stays
abbrev pub flat_pattern_by : RawSchema → RawPattern → Option (List ℕ) → FlatPattern
flat_pattern_by schema pattern None = pattern_from (abstract_rules schema) (λ text. text) pattern pattern
flat_pattern_by schema pattern (Some name) = instance_of (abstract_rules schema) pattern (pattern_named schema name)

abbrev pub flat_pattern : RawSchema → RawPattern → FlatPattern
flat_pattern schema pattern = flat_pattern_by schema pattern pattern.is_a

abbrev pub concrete_patterns : RawSchema → List RawPattern
concrete_patterns schema = filter (λ pattern. not pattern.is_abstract) schema.patterns

abbrev pub flat_schema : RawSchema → FlatSchema
flat_schema schema = record {
  head = schema.head;
  ns = schema.ns;
  lets = schema.lets;
  phases = schema.phases;
  patterns = map (flat_pattern schema) (concrete_patterns schema);
  diagnostics = schema.diagnostics;
  properties = schema.properties;
}
