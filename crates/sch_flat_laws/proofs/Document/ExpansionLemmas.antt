-- Schemas without abstract parts, as they are read and expanded again.
use Rattle.std.proofs.Common.{◌≡◌, ℕ, Bool, true, not, ◌&&◌, cond, List, [], ◌∷◌, ◌++◌, Option, None, Some, map, refl, ap, ap₂, ◌∙◌}
use Rattle.std.specs.List.{flat_map, list_all}
use Rattle.std.specs.Option.{is_none}
use Rattle.std.specs.Prelude.{filter, option_map}
use Rattle.std.proofs.lemmas.Bool.{and_parts}
use Rattle.sch_model.specs.declared.flat.FlatPattern.{FlatPattern}
use Rattle.sch_model.specs.declared.flat.FlatRule.{FlatRule}
use Rattle.sch_model.specs.declared.flat.FlatSchema.{FlatSchema}
use Rattle.sch_model.specs.declared.parts.Assertion.{Assertion as Check}
use Rattle.sch_model.specs.declared.parts.LetDecl.{LetDecl}
use Rattle.sch_model.specs.declared.parts.Part.{Part}
use Rattle.sch_model.specs.declared.parts.Part.TheVariants.{Chars, ValueOf, Name}
use Rattle.sch_model.specs.declared.raw.RawItem.{RawItem}
use Rattle.sch_model.specs.declared.raw.RawItem.TheVariants.{Let, Assertion, Extends}
use Rattle.sch_model.specs.declared.raw.RawPattern.{RawPattern}
use Rattle.sch_model.specs.declared.raw.RawRule.{RawRule}
use Rattle.sch_model.specs.declared.raw.RawSchema.{RawSchema}
use Rattle.sch_flat_laws.specs.Concrete.{is_concrete, is_concrete_item, is_concrete_rule, is_concrete_pattern}
use Rattle.sch_expansion.specs.Flat.{assertion_in, assertion_with, flat_pattern, flat_pattern_by, flat_rule, flat_schema, let_in, let_with, part_with, rule_with, text_or_empty}
use Rattle.sch_expansion.specs.Stands.{replaced, stands_for}
use Rattle.sch_references.specs.Extends.{abstract_rules}
use Rattle.sch_flat_laws.specs.Expansion.{IsOwnExpansion, raw_of, raw_pattern, raw_rule}

-- a schema without abstract parts, part by part
abbrev pub plain_rule : RawRule → FlatRule
plain_rule rule = record {
  node = rule.node;
  id = rule.id;
  context = text_or_empty rule.context;
  subject = rule.subject;
  role = rule.role;
  flag = rule.flag;
  lets = flat_map let_in rule.items;
  assertions = flat_map assertion_in rule.items;
}

abbrev pub plain_pattern : RawPattern → FlatPattern
plain_pattern pattern = record { node = pattern.node; id = pattern.id; lets = pattern.lets; rules = map plain_rule pattern.rules }

abbrev pub plain_schema : RawSchema → FlatSchema
plain_schema schema = record {
  head = schema.head;
  ns = schema.ns;
  lets = schema.lets;
  phases = schema.phases;
  patterns = map plain_pattern schema.patterns;
  diagnostics = schema.diagnostics;
  properties = schema.properties;
}

-- expressions that are left as they are
abbrev unchanged : List ℕ → List ℕ
unchanged text = text

same-lets : (lets : List LetDecl) → map (let_with unchanged) lets ≡ lets
same-lets [] = refl
same-lets (l ∷ lets) = ap (λ ls. l ∷ ls) (same-lets lets)

same-path : (path : Option (List ℕ)) → option_map unchanged path ≡ path
same-path None = refl
same-path (Some path) = refl

same-part : (part : Part) → part_with unchanged part ≡ part
same-part (Chars characters) = refl
same-part (ValueOf node select) = refl
same-part (Name node path) = ap (Name node) (same-path path)

same-parts : (parts : List Part) → map (part_with unchanged) parts ≡ parts
same-parts [] = refl
same-parts (part ∷ parts) = ap₂ (λ p ps. p ∷ ps) (same-part part) (same-parts parts)

same-checks : (checks : List Check) → map (assertion_with unchanged) checks ≡ checks
same-checks [] = refl
same-checks (a ∷ checks) =
    ap (λ (s : Option (List ℕ)). record a { subject = s; message = map (part_with unchanged) a.message } ∷ map (assertion_with unchanged) checks) (same-path a.subject)
    ∙ ap₂ (λ (m : List Part) (as_read : List Check). record a { message = m } ∷ as_read) (same-parts a.message) (same-checks checks)

-- nothing is extended
same-items : (stands : List ℕ → List RawItem) (items : List RawItem) → list_all is_concrete_item items ≡ true → flat_map (replaced stands) items ≡ items
same-items stands [] h = refl
same-items stands (Let decl ∷ items) h = ap (λ l. Let decl ∷ l) (same-items stands items h)
same-items stands (Assertion a ∷ items) h = ap (λ l. Assertion a ∷ l) (same-items stands items h)
same-items stands (Extends node name ∷ items) h = absurd (cc)

rule-parts : RawRule → Option (List ℕ) → List LetDecl → List Check → FlatRule
rule-parts rule subject lets checks = record (plain_rule rule) { subject = subject; lets = lets; assertions = checks }

rule-is-plain : (rules : List RawRule) (rule : RawRule) → is_concrete_rule rule ≡ true → flat_rule rules unchanged rule ≡ plain_rule rule
unfolding rule-parts
rule-is-plain rules rule h =
    let parts = and_parts (not rule.is_abstract) (list_all is_concrete_item rule.items) h in
    ap (rule_with unchanged rule) (same-items (stands_for rules) rule.items parts.1)
    ∙ ap (λ subject. rule-parts rule subject (map (let_with unchanged) (flat_map let_in rule.items)) (map (assertion_with unchanged) (flat_map assertion_in rule.items))) (same-path rule.subject)
    ∙ ap (λ lets. rule-parts rule rule.subject lets (map (assertion_with unchanged) (flat_map assertion_in rule.items))) (same-lets (flat_map let_in rule.items))
    ∙ ap (rule-parts rule rule.subject (flat_map let_in rule.items)) (same-checks (flat_map assertion_in rule.items))

-- nothing is left out
module _ {A B : Type 0} (kept good : A → Bool) (f g : A → B) (stays : (x : A) → good x ≡ true → kept x ≡ true) (same : (x : A) → good x ≡ true → f x ≡ g x) where
  all-kept : (xs : List A) → list_all good xs ≡ true → map f (filter kept xs) ≡ map g xs
  all-kept [] h = refl
  all-kept (x ∷ xs) h =
      let parts = and_parts (good x) (list_all good xs) h in
      ap (λ b. map f (cond b (x ∷ filter kept xs) (filter kept xs))) (stays x parts.0)
      ∙ ap₂ (λ y ys. y ∷ ys) (same x parts.0) (all-kept xs parts.1)

rule-kept : (rule : RawRule) → is_concrete_rule rule ≡ true → not rule.is_abstract ≡ true
rule-kept rule h = (and_parts (not rule.is_abstract) (list_all is_concrete_item rule.items) h).0

pattern-kept : (pattern : RawPattern) → is_concrete_pattern pattern ≡ true → not pattern.is_abstract ≡ true
pattern-kept pattern h = (and_parts (not pattern.is_abstract) (is_none pattern.is_a && list_all is_concrete_rule pattern.rules) h).0

not-some : {A : Type 0} (o : Option A) → is_none o ≡ true → o ≡ None
not-some None h = refl
not-some (Some a) h = absurd (cc)

pattern-parts : RawPattern → List LetDecl → List FlatRule → FlatPattern
pattern-parts pattern lets rules = record (plain_pattern pattern) { lets = lets; rules = rules }

pattern-is-plain : (schema : RawSchema) (pattern : RawPattern) → is_concrete_pattern pattern ≡ true → flat_pattern schema pattern ≡ plain_pattern pattern
unfolding pattern-parts
pattern-is-plain schema pattern h =
    let parts = and_parts (not pattern.is_abstract) (is_none pattern.is_a && list_all is_concrete_rule pattern.rules) h in
    let more = and_parts (is_none pattern.is_a) (list_all is_concrete_rule pattern.rules) parts.1 in
    let rules = abstract_rules schema in
    ap (flat_pattern_by schema pattern) (not-some pattern.is_a more.0)
    ∙ ap (λ lets. pattern-parts pattern lets (map (flat_rule rules unchanged) (filter (λ (rule : RawRule). not rule.is_abstract) pattern.rules))) (same-lets pattern.lets)
    ∙ ap (pattern-parts pattern pattern.lets)
    (all-kept (λ (rule : RawRule). not rule.is_abstract) is_concrete_rule (flat_rule rules unchanged) plain_rule rule-kept (rule-is-plain rules) pattern.rules more.1)

with-patterns : RawSchema → List FlatPattern → FlatSchema
with-patterns schema patterns = record (plain_schema schema) { patterns = patterns }

pub concrete_is_plain : (schema : RawSchema) → is_concrete schema ≡ true → flat_schema schema ≡ plain_schema schema
unfolding with-patterns
concrete_is_plain schema h =
    ap (with-patterns schema)
    (all-kept (λ (pattern : RawPattern). not pattern.is_abstract) is_concrete_pattern (flat_pattern schema) plain_pattern pattern-kept (pattern-is-plain schema) schema.patterns h)

-- what a document says of a schema
abbrev items_of : List LetDecl → List Check → List RawItem
items_of lets checks = map (λ decl. Let decl) lets ++ map (λ assertion. Assertion assertion) checks

no_lets : (checks : List Check) → flat_map let_in (map (λ assertion. Assertion assertion) checks) ≡ []
no_lets [] = refl
no_lets (a ∷ checks) = no_lets checks

lets_of_items : (lets : List LetDecl) (checks : List Check) → flat_map let_in (items_of lets checks) ≡ lets
lets_of_items [] checks = no_lets checks
lets_of_items (l ∷ lets) checks = ap (λ ls. l ∷ ls) (lets_of_items lets checks)

all_assertions : (checks : List Check) → flat_map assertion_in (map (λ assertion. Assertion assertion) checks) ≡ checks
all_assertions [] = refl
all_assertions (a ∷ checks) = ap (λ as_read. a ∷ as_read) (all_assertions checks)

assertions_of_items : (lets : List LetDecl) (checks : List Check) → flat_map assertion_in (items_of lets checks) ≡ checks
assertions_of_items [] checks = all_assertions checks
assertions_of_items (l ∷ lets) checks = assertions_of_items lets checks

with_items : FlatRule → List LetDecl → List Check → FlatRule
with_items rule lets checks = record rule { lets = lets; assertions = checks }

rule_stays : (rule : FlatRule) → plain_rule (raw_rule rule) ≡ rule
unfolding with_items
rule_stays rule =
    ap (λ ls. with_items rule ls (flat_map assertion_in (items_of rule.lets rule.assertions))) (lets_of_items rule.lets rule.assertions)
    ∙ ap (with_items rule rule.lets) (assertions_of_items rule.lets rule.assertions)

rules_stay : (rules : List FlatRule) → map plain_rule (map raw_rule rules) ≡ rules
rules_stay [] = refl
rules_stay (rule ∷ rules) = ap (λ r. r ∷ map plain_rule (map raw_rule rules)) (rule_stays rule) ∙ ap (λ rs. rule ∷ rs) (rules_stay rules)

pattern_stays : (pattern : FlatPattern) → plain_pattern (raw_pattern pattern) ≡ pattern
pattern_stays pattern = ap (λ rs. record pattern { rules = rs }) (rules_stay pattern.rules)

patterns_stay : (patterns : List FlatPattern) → map plain_pattern (map raw_pattern patterns) ≡ patterns
patterns_stay [] = refl
patterns_stay (pattern ∷ patterns) =
    ap (λ p. p ∷ map plain_pattern (map raw_pattern patterns)) (pattern_stays pattern) ∙ ap (λ ps. pattern ∷ ps) (patterns_stay patterns)

concrete_assertions : (checks : List Check) → list_all is_concrete_item (map (λ assertion. Assertion assertion) checks) ≡ true
concrete_assertions [] = refl
concrete_assertions (a ∷ checks) = concrete_assertions checks

concrete_items : (lets : List LetDecl) (checks : List Check) → list_all is_concrete_item (items_of lets checks) ≡ true
concrete_items [] checks = concrete_assertions checks
concrete_items (l ∷ lets) checks = concrete_items lets checks

concrete_rules : (rules : List FlatRule) → list_all is_concrete_rule (map raw_rule rules) ≡ true
concrete_rules [] = refl
concrete_rules (rule ∷ rules) = rw (concrete_items rule.lets rule.assertions) (concrete_rules rules)

concrete_patterns : (patterns : List FlatPattern) → list_all is_concrete_pattern (map raw_pattern patterns) ≡ true
concrete_patterns [] = refl
concrete_patterns (pattern ∷ patterns) = rw (concrete_rules pattern.rules) (concrete_patterns patterns)

pub schema_stays : (schema : FlatSchema) → IsOwnExpansion schema
schema_stays schema = record {
  concrete = concrete_patterns schema.patterns;
  expanded = concrete_is_plain (raw_of schema) (concrete_patterns schema.patterns) ∙ ap (λ ps. record schema { patterns = ps }) (patterns_stay schema.patterns);
}
