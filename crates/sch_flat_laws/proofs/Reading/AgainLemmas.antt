-- Places forgotten before an expansion and after it.
use Rattle.std.proofs.Common.{◌≡◌, Bool, true, not, ◌&&◌, List, [], ◌∷◌, map, refl, sym, ap, ap₂, ◌∙◌}
use Rattle.std.specs.List.{flat_map, list_all}
use Rattle.std.specs.Prelude.{is_none}
use Rattle.sch_flat_laws.specs.Concrete.{is_concrete, is_concrete_item, is_concrete_pattern, is_concrete_rule}
use Rattle.sch_model.specs.declared.flat.FlatPattern.{FlatPattern}
use Rattle.sch_model.specs.declared.flat.FlatRule.{FlatRule}
use Rattle.sch_model.specs.declared.flat.FlatSchema.{FlatSchema}
use Rattle.sch_model.specs.declared.parts.Assertion.{Assertion}
use Rattle.sch_model.specs.declared.parts.LetDecl.{LetDecl}
use Rattle.sch_model.specs.declared.raw.RawItem.{RawItem}
use Rattle.sch_model.specs.declared.raw.RawItem.TheVariants as item
use Rattle.sch_model.specs.declared.raw.RawPattern.{RawPattern}
use Rattle.sch_model.specs.declared.raw.RawRule.{RawRule}
use Rattle.sch_model.specs.declared.raw.RawSchema.{RawSchema}
use Rattle.sch_expansion.specs.Flat.{assertion_in, flat_schema, let_in}
use Rattle.sch_flat_laws.specs.Expansion.{FlatSchemasStay, raw_of}
use Rattle.sch_flat_laws.proofs.Document.ExpansionLemmas.{concrete_is_plain, plain_pattern, plain_rule, plain_schema}
use Rattle.sch_model.specs.Placeless.{placeless_assertion, placeless_flat, placeless_flat_pattern, placeless_flat_rule, placeless_item, placeless_let, placeless_pattern, placeless_rule, placeless_schema}

lets-forget : (items : List RawItem) → flat_map let_in (map placeless_item items) ≡ map placeless_let (flat_map let_in items)
lets-forget [] = refl
lets-forget (item.Let decl ∷ items) = ap (λ l. placeless_let decl ∷ l) (lets-forget items)
lets-forget (item.Assertion assertion ∷ items) = lets-forget items
lets-forget (item.Extends node rule ∷ items) = lets-forget items

assertions-forget : (items : List RawItem) → flat_map assertion_in (map placeless_item items) ≡ map placeless_assertion (flat_map assertion_in items)
assertions-forget [] = refl
assertions-forget (item.Let decl ∷ items) = assertions-forget items
assertions-forget (item.Assertion assertion ∷ items) = ap (λ l. placeless_assertion assertion ∷ l) (assertions-forget items)
assertions-forget (item.Extends node rule ∷ items) = assertions-forget items

with-items : RawRule → List LetDecl → List Assertion → FlatRule
with-items rule lets assertions = record (plain_rule rule) { node = 0; lets = lets; assertions = assertions }

rule-forgets : (rule : RawRule) → plain_rule (placeless_rule rule) ≡ placeless_flat_rule (plain_rule rule)
unfolding with-items
rule-forgets rule =
    ap (λ l. with-items rule l (flat_map assertion_in (map placeless_item rule.items))) (lets-forget rule.items)
    ∙ ap (with-items rule (map placeless_let (flat_map let_in rule.items))) (assertions-forget rule.items)

rules-forget : (rules : List RawRule) → map plain_rule (map placeless_rule rules) ≡ map placeless_flat_rule (map plain_rule rules)
rules-forget [] = refl
rules-forget (rule ∷ rules) =
    ap (λ r. r ∷ map plain_rule (map placeless_rule rules)) (rule-forgets rule) ∙ ap (λ rs. placeless_flat_rule (plain_rule rule) ∷ rs) (rules-forget rules)

with-rules : RawPattern → List FlatRule → FlatPattern
with-rules pattern rules = record (plain_pattern pattern) { node = 0; lets = map placeless_let pattern.lets; rules = rules }

pattern-forgets : (pattern : RawPattern) → plain_pattern (placeless_pattern pattern) ≡ placeless_flat_pattern (plain_pattern pattern)
unfolding with-rules
pattern-forgets pattern = ap (with-rules pattern) (rules-forget pattern.rules)

patterns-forget : (patterns : List RawPattern) → map plain_pattern (map placeless_pattern patterns) ≡ map placeless_flat_pattern (map plain_pattern patterns)
patterns-forget [] = refl
patterns-forget (pattern ∷ patterns) =
    ap (λ p. p ∷ map plain_pattern (map placeless_pattern patterns)) (pattern-forgets pattern)
    ∙ ap (λ ps. placeless_flat_pattern (plain_pattern pattern) ∷ ps) (patterns-forget patterns)

with-patterns : RawSchema → List FlatPattern → FlatSchema
with-patterns schema patterns = record (plain_schema (placeless_schema schema)) { patterns = patterns }

schema-forgets : (schema : RawSchema) → plain_schema (placeless_schema schema) ≡ placeless_flat (plain_schema schema)
unfolding with-patterns
schema-forgets schema = ap (with-patterns schema) (patterns-forget schema.patterns)

same-all : {A : Type 0} (p : A → Bool) (forget : A → A) → ((x : A) → p (forget x) ≡ p x) → (xs : List A) → list_all p (map forget xs) ≡ list_all p xs
same-all p forget same [] = refl
same-all p forget same (x ∷ xs) = ap₂ (λ a b. a && b) (same x) (same-all p forget same xs)

-- whether it is concrete
item-concrete : (x : RawItem) → is_concrete_item (placeless_item x) ≡ is_concrete_item x
item-concrete (item.Let decl) = refl
item-concrete (item.Assertion assertion) = refl
item-concrete (item.Extends node rule) = refl

rule-concrete : (rule : RawRule) → is_concrete_rule (placeless_rule rule) ≡ is_concrete_rule rule
rule-concrete rule = ap (λ b. not rule.is_abstract && b) (same-all is_concrete_item placeless_item item-concrete rule.items)

pattern-concrete : (pattern : RawPattern) → is_concrete_pattern (placeless_pattern pattern) ≡ is_concrete_pattern pattern
pattern-concrete pattern =
    ap (λ b. not pattern.is_abstract && (is_none pattern.is_a && b)) (same-all is_concrete_rule placeless_rule rule-concrete pattern.rules)

pub concrete_same : (schema : RawSchema) → is_concrete (placeless_schema schema) ≡ is_concrete schema
concrete_same schema = same-all is_concrete_pattern placeless_pattern pattern-concrete schema.patterns

pub expanded_again : FlatSchemasStay → (schema : FlatSchema) (raw : RawSchema) → placeless_schema raw ≡ placeless_schema (raw_of schema) →
    placeless_flat (flat_schema raw) ≡ placeless_flat schema
expanded_again stays schema raw same =
    let own = (stays schema).concrete in
    let concrete : is_concrete raw ≡ true = sym (concrete_same raw) ∙ ap is_concrete same ∙ concrete_same (raw_of schema) ∙ own in
    ap placeless_flat (concrete_is_plain raw concrete)
    ∙ sym (schema-forgets raw)
    ∙ ap plain_schema same
    ∙ schema-forgets (raw_of schema)
    ∙ ap placeless_flat (sym (concrete_is_plain (raw_of schema) own) ∙ (stays schema).expanded)
