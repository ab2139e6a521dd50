-- What holds of the parts of a schema holds of those of its expansion.
use Rattle.std.proofs.Common.{ℕ, zero, suc, Bool, true, false, not, cond, find, length, List, [], ◌∷◌, Option, None, Some, map, ◌&&◌, ◌≡◌, refl}
use Rattle.std.specs.List.{flat_map}
use Rattle.std.specs.Prelude.{filter}
use Rattle.sch_model.specs.declared.flat.FlatPattern.{FlatPattern}
use Rattle.sch_model.specs.declared.flat.FlatRule.{FlatRule}
use Rattle.sch_model.specs.declared.parts.Assertion.{Assertion}
use Rattle.sch_model.specs.declared.parts.LetDecl.{LetDecl}
use Rattle.sch_model.specs.declared.raw.RawItem.{RawItem}
use Rattle.sch_model.specs.declared.raw.RawItem.TheVariants as item
use Rattle.sch_model.specs.declared.raw.RawPattern.{RawPattern}
use Rattle.sch_model.specs.declared.raw.RawRule.{RawRule}
use Rattle.sch_model.specs.declared.raw.RawSchema.{RawSchema}
use Rattle.sch_references.specs.Extends.{abstract_rules, is_id, items_named}
use Rattle.sch_expansion.specs.Filled.{filled}
use Rattle.sch_expansion.specs.Flat.{assertion_in, bare_pattern, concrete_patterns, flat_pattern, flat_pattern_by, flat_rule, instance_of, let_in, pattern_from, pattern_named, rule_with}
use Rattle.sch_expansion.specs.Stands.{replaced, stands, stands_for}
use Rattle.sch_flat_laws.specs.Readable.{Each}
use Rattle.sch_flat_laws.proofs.Rules.Sound.{each_append}

pub each_map : {A B : Type 0} (P : B → Type 0) (f : A → B) (xs : List A) → Each (λ (x : A). P (f x)) xs → Each P (map f xs)
each_map P f [] h = tt
each_map P f (x ∷ xs) h = (h.0, each_map P f xs h.1)

pub each_over : {A B : Type 0} (P : B → Type 0) (f : A → List B) (xs : List A) → Each (λ (x : A). Each P (f x)) xs → Each P (flat_map f xs)
each_over P f [] h = tt
each_over P f (x ∷ xs) h = each_append P (f x) (flat_map f xs) h.0 (each_over P f xs h.1)

pub each_to : {A : Type 0} (P Q : A → Type 0) → ((x : A) → P x → Q x) → (xs : List A) → Each P xs → Each Q xs
each_to P Q to [] h = tt
each_to P Q to (x ∷ xs) h = (to x h.0, each_to P Q to xs h.1)

pub each_filter : {A : Type 0} (P : A → Type 0) (test : A → Bool) (xs : List A) → Each P xs → Each P (filter test xs)
each_filter P test [] h = tt
each_filter P test (x ∷ xs) h = by (test x) (each_filter P test xs h.1)
  where
    by : (b : Bool) → Each P (filter test xs) → Each P (cond b (x ∷ filter test xs) (filter test xs))
    by true rest = (h.0, rest)
    by false rest = rest

-- where there is an item, it holds of it
abbrev pub HoldsIfAny : {A : Type 0} → (A → Type 0) → Option A → Type 0
HoldsIfAny P None = Unit {0}
HoldsIfAny P (Some x) = P x

each_found : {A : Type 0} (P : A → Type 0) (test : A → Bool) (xs : List A) → Each P xs → HoldsIfAny P (find test xs)
each_found P test [] h = tt
each_found P test (x ∷ xs) h = by (test x) (each_found P test xs h.1)
  where
    by : (b : Bool) → HoldsIfAny P (find test xs) → HoldsIfAny P (cond b (Some x) (find test xs))
    by true rest = h.0
    by false rest = rest

-- the items that stand for an `extends`
module _ (I : RawItem → Type 0) where
  abbrev pub HoldsIn : RawRule → Type 0
  HoldsIn rule = Each I rule.items

  each-replaced : (by : List ℕ → List RawItem) → ((name : List ℕ) → Each I (by name)) → (items : List RawItem) → Each I items → Each I (flat_map (replaced by) items)
  each-replaced by holds [] h = tt
  each-replaced by holds (item.Let decl ∷ items) h = (h.0, each-replaced by holds items h.1)
  each-replaced by holds (item.Assertion assertion ∷ items) h = (h.0, each-replaced by holds items h.1)
  each-replaced by holds (item.Extends node name ∷ items) h = each_append I (by name) (flat_map (replaced by) items) (holds name) (each-replaced by holds items h.1)

  items-named : (rules : List RawRule) (name : List ℕ) → Each HoldsIn rules → Each I (items_named rules name)
  items-named [] name h = tt
  items-named (rule ∷ rules) name h = by (is_id name rule.id) (items-named rules name h.1)
    where
      by : (b : Bool) → Each I (items_named rules name) → Each I (cond b rule.items (items_named rules name))
      by true rest = h.0
      by false rest = rest

  items-stand : (rules : List RawRule) → Each HoldsIn rules → (levels : ℕ) (name : List ℕ) → Each I (stands rules levels name)
  items-stand rules h zero name = tt
  items-stand rules h (suc levels) name = each-replaced (stands rules levels) (items-stand rules h levels) (items_named rules name) (items-named rules name h)

  -- the abstract rules of a schema
  pub abstract_hold : (schema : RawSchema) → Each (λ (pattern : RawPattern). Each HoldsIn pattern.rules) schema.patterns → Each HoldsIn (abstract_rules schema)
  abstract_hold schema h =
      each_filter HoldsIn (λ (rule : RawRule). rule.is_abstract) (flat_map (λ (pattern : RawPattern). pattern.rules) schema.patterns)
      (each_over HoldsIn (λ (pattern : RawPattern). pattern.rules) schema.patterns h)

  -- the rules of a pattern that aren't abstract, expanded among these abstract rules
  pub rules_hold : (rules : List RawRule) → Each HoldsIn rules → (change : List ℕ → List ℕ) (R : RawRule → Type 0) (G : FlatRule → Type 0) → ((rule : RawRule) → R rule → HoldsIn rule) →
      ((rule : RawRule) (items : List RawItem) → R rule → Each I items → G (rule_with change rule items)) →
      (own : List RawRule) → Each R own → Each G (map (flat_rule rules change) (filter (λ (rule : RawRule). not rule.is_abstract) own))
  rules_hold rules h change R G inside make own each =
      each_map G (flat_rule rules change) (filter (λ (rule : RawRule). not rule.is_abstract) own)
      (each_to R (λ (rule : RawRule). G (flat_rule rules change rule))
      (λ rule holds. make rule (flat_map (replaced (stands_for rules)) rule.items) holds (each-replaced (stands_for rules) (items-stand rules h (length rules)) rule.items (inside rule holds)))
      (filter (λ (rule : RawRule). not rule.is_abstract) own) (each_filter R (λ (rule : RawRule). not rule.is_abstract) own each))

  pub lets_hold : (L : LetDecl → Type 0) → ((decl : LetDecl) → I (item.Let decl) → L decl) → (items : List RawItem) → Each I items → Each L (flat_map let_in items)
  lets_hold L to [] h = tt
  lets_hold L to (item.Let decl ∷ items) h = (to decl h.0, lets_hold L to items h.1)
  lets_hold L to (item.Assertion assertion ∷ items) h = lets_hold L to items h.1
  lets_hold L to (item.Extends node name ∷ items) h = lets_hold L to items h.1

  pub assertions_hold : (A : Assertion → Type 0) → ((a : Assertion) → I (item.Assertion a) → A a) → (items : List RawItem) → Each I items → Each A (flat_map assertion_in items)
  assertions_hold A to [] h = tt
  assertions_hold A to (item.Let decl ∷ items) h = assertions_hold A to items h.1
  assertions_hold A to (item.Assertion assertion ∷ items) h = (to assertion h.0, assertions_hold A to items h.1)
  assertions_hold A to (item.Extends node name ∷ items) h = assertions_hold A to items h.1

-- the patterns of an expansion: `C` holds of what changes the expressions of one
module _ (schema : RawSchema) (K : RawPattern → Type 0) (H : FlatPattern → Type 0) (C : (List ℕ → List ℕ) → Type 0)
    (make : (change : List ℕ → List ℕ) (pattern origin : RawPattern) → C change → K pattern → K origin → H (pattern_from (abstract_rules schema) change pattern origin))
    (bare : (pattern : RawPattern) → K pattern → H (bare_pattern pattern))
    (same : C (λ text. text)) (fills : (pattern : RawPattern) → K pattern → C (filled pattern.params)) (each : Each K schema.patterns) where
  instance-holds : (pattern : RawPattern) (origin : Option RawPattern) → K pattern → HoldsIfAny K origin → H (instance_of (abstract_rules schema) pattern origin)
  instance-holds pattern None h k = bare pattern h
  instance-holds pattern (Some origin) h k = make (filled pattern.params) pattern origin (fills pattern h) h k

  pattern-holds : (pattern : RawPattern) (name : Option (List ℕ)) → K pattern → H (flat_pattern_by schema pattern name)
  pattern-holds pattern None h = make (λ text. text) pattern pattern same h h
  pattern-holds pattern (Some name) h =
      instance-holds pattern (pattern_named schema name) h
      (each_found K (λ (origin : RawPattern). origin.is_abstract && is_id name origin.id) schema.patterns each)

  pub patterns_hold : Each H (map (flat_pattern schema) (concrete_patterns schema))
  patterns_hold =
      each_map H (flat_pattern schema) (concrete_patterns schema)
      (each_to K (λ (pattern : RawPattern). H (flat_pattern schema pattern)) (λ pattern. pattern-holds pattern pattern.is_a) (concrete_patterns schema)
      (each_filter K (λ (pattern : RawPattern). not pattern.is_abstract) schema.patterns each))

-- an expansion keeps the ids of patterns
instance-id : (schema : RawSchema) (pattern : RawPattern) (origin : Option RawPattern) → (instance_of (abstract_rules schema) pattern origin).id ≡ pattern.id
instance-id schema pattern None = refl
instance-id schema pattern (Some origin) = refl

by-id : (schema : RawSchema) (pattern : RawPattern) (name : Option (List ℕ)) → (flat_pattern_by schema pattern name).id ≡ pattern.id
by-id schema pattern None = refl
by-id schema pattern (Some name) = instance-id schema pattern (pattern_named schema name)

pub flat_id : (schema : RawSchema) (pattern : RawPattern) → (flat_pattern schema pattern).id ≡ pattern.id
flat_id schema pattern = by-id schema pattern pattern.is_a
