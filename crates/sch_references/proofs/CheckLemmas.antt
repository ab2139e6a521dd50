-- What a check of all places says of the abstract rules.
use Rattle.std.proofs.Common.{◌≡◌, ℕ, Bool, true, false, cond, not, ◌&&◌, ◌||◌, List, [], ◌∷◌, ◌++◌, Option, None, Some, length, filter, map, refl, sym, ap, ◌∙◌, subst, true≢false, arith}
use Rattle.std.specs.Prelude.{IsSome}
use Rattle.std.specs.Str.{bytes_eq}
use Rattle.std.specs.List.{flat_map, list_all, list_any}
use Rattle.std.specs.Option.{option_or, option_to_list}
use Rattle.sch_model.specs.declared.raw.RawItem.{RawItem}
use Rattle.sch_model.specs.declared.raw.RawItem.TheVariants as item
use Rattle.sch_model.specs.declared.raw.RawPattern.{RawPattern}
use Rattle.sch_model.specs.declared.raw.RawRule.{RawRule}
use Rattle.sch_model.specs.declared.raw.RawSchema.{RawSchema}
use Rattle.sch_rules.specs.FirstBroken.{fault_of, least}
use Rattle.sch_rules.specs.Rules.{name_if}
use Rattle.sch_references.specs.Cycles.{leads_back, leads_to}
use Rattle.sch_model.specs.Items.{extended_in}
use Rattle.sch_references.specs.Extends.{abstract_rules, is_id, is_named, items_named}
use Rattle.sch_references.specs.Order.{IsOrderOf, extends_only, is_sorted}
use Rattle.sch_references.specs.Places.{Place, first_among}
use Rattle.sch_references.specs.References.{Known, abstract_id, concrete_id, head_place, is_among, item_places, known_in, origin_place, pattern_places, phase_places, places_with, reference_places, rule_places, unknown_rule}
use Rattle.sch_references.specs.inner.Firsts.{with_rules}
use Rattle.sch_references.specs.inner.KnownIds.{no_parts, with_parts}
use Rattle.sch_references.specs.Ended.{Refuses}
use Rattle.sch_model.specs.declared.fault.SchemaError.{SchemaError}
use Rattle.sch_references.specs.inner.Order.{Found, Sorted, is_settled, is_sorted_among, settles}
use Rattle.sch_references.specs.inner.Ways.{Cyclic, Each, Own}
use Rattle.sch_references.proofs.FirstLemmas.{earlier-nothing}
use Rattle.sch_references.proofs.LeadsLemmas.{leads-all, leads-same}
use Rattle.sch_references.proofs.NamedLemmas.{each-map, firsts-items, firsts-length, firsts-named, id-of, items-none, or-left, same-bytes}
use Rattle.sch_references.proofs.OntoLemmas.{first_among-append}

-- the first uses of ids lead as all do
module _ (rules others : List RawRule) (same : (name : List ℕ) → items_named rules name ≡ items_named others name) where
  to-same : (a b : List ℕ) → leads_to rules a b ≡ leads_to others a b
  to-same a b = by (leads_to rules a b) (leads_to others a b) refl refl
    where
      by : (p q : Bool) → leads_to rules a b ≡ p → leads_to others a b ≡ q → p ≡ q
      by true true e f = refl
      by false false e f = refl
      by true false e f =
          absurd (true≢false (sym (leads-all others a b (record { steps = length rules; way = sym (leads-same rules others same (length rules) a b) ∙ e })) ∙ f))
      by false true e f =
          absurd (true≢false (sym (leads-all rules a b (record { steps = length others; way = leads-same rules others same (length others) a b ∙ f })) ∙ e))

  back-same : (rule : RawRule) (name : List ℕ) → leads_back rules rule name ≡ leads_back others rule name
  back-same rule name = λ t. rule.is_abstract && list_any (λ id. to-same name id t) (option_to_list rule.id)

  item-same : (known : Known) (rule : RawRule) (it : RawItem) → item_places known rules rule it ≡ item_places known others rule it
  item-same known rule (item.Let _) = refl
  item-same known rule (item.Assertion _) = refl
  item-same known rule (item.Extends node name) =
      λ t. (record { node = node; rules = (10, unknown_rule known name) ∷ (11, name_if (back-same rule name t) name) ∷ [] }) ∷ []

  rule-same : (known : Known) (rule : RawRule) → rule_places known rules rule ≡ rule_places known others rule
  rule-same known rule = λ t. flat_map (λ it. item-same known rule it t) rule.items

  pattern-same : (known : Known) (pattern : RawPattern) → pattern_places known rules pattern ≡ pattern_places known others pattern
  pattern-same known pattern = λ t. origin_place known pattern ∷ flat_map (λ rule. rule-same known rule t) pattern.rules

  pub places-same : (known : Known) (schema : RawSchema) → places_with known rules schema ≡ places_with known others schema
  places-same known schema =
      λ t. head_place known schema.head ∷ (flat_map (phase_places known) schema.phases ++ flat_map (λ pattern. pattern-same known pattern t) schema.patterns)

firsts-same : (rules : List RawRule) (name : List ℕ) → items_named (with_rules [] rules) name ≡ items_named rules name
firsts-same rules name = firsts-items [] rules name

pub firsts-places : (known : Known) (rules firsts : List RawRule) (schema : RawSchema) → known ≡ known_in schema → firsts ≡ with_rules [] (abstract_rules schema) → places_with known firsts schema ≡ reference_places schema
firsts-places known rules firsts schema same is =
    ap (λ (k : Known). places_with k firsts schema) same
    ∙ ap (λ (r : List RawRule). places_with (known_in schema) r schema) is
    ∙ places-same (with_rules [] (abstract_rules schema)) (abstract_rules schema) (firsts-same (abstract_rules schema)) (known_in schema) schema

-- nothing is wrong with an `extends`
abbrev Good : Known → List RawRule → RawRule → List ℕ → Type 0
Good known rules rule name = (known.is_abstract_rule name ≡ true) × (leads_back rules rule name ≡ false)

good-item : (known : Known) (rules : List RawRule) (rule : RawRule) (it : RawItem) → first_among (item_places known rules rule it) ≡ None → Each (Good known rules rule) (extended_in it)
good-item known rules rule (item.Let _) h = tt
good-item known rules rule (item.Assertion _) h = tt
good-item known rules rule (item.Extends node name) h =
    by (known.is_abstract_rule name) (leads_back rules rule name) refl refl
    (earlier-nothing (least node ((10, unknown_rule known name) ∷ (11, name_if (leads_back rules rule name) name) ∷ [])) None h).0
  where
    by : (a b : Bool) → known.is_abstract_rule name ≡ a → leads_back rules rule name ≡ b →
        option_or (fault_of node 10 (name_if (not a) name)) (option_or (fault_of node 11 (name_if b name)) None) ≡ None → Each (Good known rules rule) (name ∷ [])
    by true false e f h = ((e, f), tt)
    by true true e f h = absurd (cc)
    by false b e f h = absurd (cc)

none-append : (xs ys : List Place) → first_among (xs ++ ys) ≡ None → (first_among xs ≡ None) × (first_among ys ≡ None)
none-append xs ys h = earlier-nothing (first_among xs) (first_among ys) (sym (first_among-append xs ys) ∙ h)

each-none : {A : Type 0} (g : A → List Place) (xs : List A) → first_among (flat_map g xs) ≡ None → Each (λ x. first_among (g x) ≡ None) xs
each-none g [] h = tt
each-none g (x ∷ xs) h = let both = none-append (g x) (flat_map g xs) h in (both.0, each-none g xs both.1)

each-append : {A : Type 0} (P : A → Type 0) (xs ys : List A) → Each P xs → Each P ys → Each P (xs ++ ys)
each-append P [] ys p q = q
each-append P (x ∷ xs) ys p q = (p.0, each-append P xs ys p.1 q)

pub each-flat : {A B : Type 0} (P : B → Type 0) (g : A → List B) (xs : List A) → Each (λ x. Each P (g x)) xs → Each P (flat_map g xs)
each-flat P g [] p = tt
each-flat P g (x ∷ xs) p = each-append P (g x) (flat_map g xs) p.0 (each-flat P g xs p.1)

each-filter : (P : RawRule → Type 0) (xs : List RawRule) → Each P xs → Each (λ rule. (rule.is_abstract ≡ true) × P rule) (filter (λ rule. rule.is_abstract) xs)
each-filter P [] p = tt
each-filter P (x ∷ xs) p = by x.is_abstract refl (each-filter P xs p.1)
  where
    by : (b : Bool) → x.is_abstract ≡ b → Each (λ rule. (rule.is_abstract ≡ true) × P rule) (filter (λ rule. rule.is_abstract) xs) →
        Each (λ rule. (rule.is_abstract ≡ true) × P rule) (cond b (x ∷ filter (λ rule. rule.is_abstract) xs) (filter (λ rule. rule.is_abstract) xs))
    by true e more = ((e, p.0), more)
    by false e more = more

good-rule : (known : Known) (rules : List RawRule) (rule : RawRule) → first_among (rule_places known rules rule) ≡ None → Each (Good known rules rule) (flat_map extended_in rule.items)
good-rule known rules rule h =
    each-flat (Good known rules rule) extended_in rule.items
    (each-map (λ it. first_among (item_places known rules rule it) ≡ None) (λ it. Each (Good known rules rule) (extended_in it)) (good-item known rules rule) rule.items
    (each-none (item_places known rules rule) rule.items h))

abbrev GoodRule : Known → List RawRule → RawRule → Type 0
GoodRule known rules rule = (rule.is_abstract ≡ true) × Each (Good known rules rule) (flat_map extended_in rule.items)

good-pattern : (known : Known) (rules : List RawRule) (pattern : RawPattern) → first_among (pattern_places known rules pattern) ≡ None →
    Each (λ rule. Each (Good known rules rule) (flat_map extended_in rule.items)) pattern.rules
good-pattern known rules pattern h =
    each-map (λ rule. first_among (rule_places known rules rule) ≡ None) (λ rule. Each (Good known rules rule) (flat_map extended_in rule.items)) (good-rule known rules) pattern.rules
    (each-none (rule_places known rules) pattern.rules (none-append (origin_place known pattern ∷ []) (flat_map (rule_places known rules) pattern.rules) h).1)

good-rules : (schema : RawSchema) → first_among (reference_places schema) ≡ None → Each (GoodRule (known_in schema) (abstract_rules schema)) (abstract_rules schema)
good-rules schema h =
    let known = known_in schema in
    let rules = abstract_rules schema in
    let phases = flat_map (phase_places known) schema.phases in
    let patterns = flat_map (pattern_places known rules) schema.patterns in
    let rest = (none-append (head_place known schema.head ∷ []) (phases ++ patterns) h).1 in
    each-filter (λ rule. Each (Good known rules rule) (flat_map extended_in rule.items)) (flat_map (λ pattern. pattern.rules) schema.patterns)
    (each-flat (λ rule. Each (Good known rules rule) (flat_map extended_in rule.items)) (λ pattern. pattern.rules) schema.patterns
    (each-map (λ pattern. first_among (pattern_places known rules pattern) ≡ None) (λ pattern. Each (λ rule. Each (Good known rules rule) (flat_map extended_in rule.items)) pattern.rules)
    (good-pattern known rules) schema.patterns (each-none (pattern_places known rules) schema.patterns (none-append phases patterns rest).1)))

-- the first rule with an id, whose items the id stands for
pub look-up-items : (P : RawRule → Type 0) (xs : List RawRule) (name : List ℕ) → is_named xs name ≡ true → Each P xs → (rule : RawRule) × ((rule.id ≡ Some name) × ((items_named xs name ≡ rule.items) × P rule))
look-up-items P [] name h each = absurd (cc)
look-up-items P (x ∷ xs) name h each = by (is_id name x.id) refl h (λ k. look-up-items P xs name k each.1)
  where
    by : (b : Bool) → is_id name x.id ≡ b → (b || is_named xs name) ≡ true → (is_named xs name ≡ true → (rule : RawRule) × ((rule.id ≡ Some name) × ((items_named xs name ≡ rule.items) × P rule))) →
        (rule : RawRule) × ((rule.id ≡ Some name) × ((cond b x.items (items_named xs name) ≡ rule.items) × P rule))
    by true e h more = (x, (id-of name x.id e, (refl, each.0)))
    by false e h more = more h

among-each : (P : List ℕ → Type 0) (names : List (List ℕ)) (name : List ℕ) → is_among names name ≡ true → Each P names → P name
among-each P [] name h each = absurd (cc)
among-each P (n ∷ names) name h each = by (bytes_eq name n) refl h (λ k. among-each P names name k each.1)
  where
    by : (b : Bool) → bytes_eq name n ≡ b → (b || is_among names name) ≡ true → (is_among names name ≡ true → P name) → P name
    by true e h more = subst P (sym (same-bytes name n e)) each.0
    by false e h more = more h

-- a cycle is told
no-cycle : (known : Known) (rules : List RawRule) → Each (GoodRule known rules) rules → Cyclic rules → ⊥
no-cycle known rules good c =
    let it = look-up-items (GoodRule known rules) rules c.name c.named good in
    let among : is_among (flat_map extended_in it.0.items) c.next ≡ true = sym (ap (λ (its : List RawItem). is_among (flat_map extended_in its) c.next) it.1.1.0) ∙ c.extended in
    let g : Good known rules it.0 c.next = among-each (Good known rules it.0) (flat_map extended_in it.0.items) c.next among it.1.1.1.1 in
    let back : leads_back rules it.0 c.next ≡ true = rw (it.1.1.1.0, it.1.0) (or-left (leads_to rules c.next c.name) false (leads-all rules c.next c.name c.way)) in
    true≢false (sym back ∙ g.1)

cyclic-same : (rules others : List RawRule) → ((name : List ℕ) → items_named rules name ≡ items_named others name) → ((name : List ℕ) → is_named rules name ≡ is_named others name) → Cyclic rules → Cyclic others
cyclic-same rules others items names c = record {
  name = c.name;
  next = c.next;
  named = sym (names c.name) ∙ c.named;
  extended = ap (λ (its : List RawItem). is_among (flat_map extended_in its) c.next) (sym (items c.name)) ∙ c.extended;
  way = record { steps = c.way.steps; way = sym (leads-same rules others items c.way.steps c.next c.name) ∙ c.way.way };
}

pub is-some : (schema : RawSchema) (firsts : List RawRule) (order : Option (List RawRule)) → first_among (reference_places schema) ≡ None → firsts ≡ with_rules [] (abstract_rules schema) → Found firsts order → IsSome order
is-some schema firsts (Some o) h is found = refl
is-some schema firsts None h is found =
    absurd (no-cycle (known_in schema) (abstract_rules schema) (good-rules schema h)
    (cyclic-same (with_rules [] (abstract_rules schema)) (abstract_rules schema) (firsts-same (abstract_rules schema)) (firsts-named [] (abstract_rules schema)) (subst Cyclic is found)))

-- the order is one of all, since each name is known
all-known-names : (rules before : List RawRule) (names : List (List ℕ)) → Each (λ name. is_named rules name ≡ true) names → list_all (is_settled rules before) names ≡ true → list_all (is_named before) names ≡ true
all-known-names rules before [] known h = refl
all-known-names rules before (n ∷ names) known h = by (is_named rules n) (is_named before n) known.0 h (all-known-names rules before names known.1)
  where
    by : (a b : Bool) → a ≡ true → ((not a || b) && list_all (is_settled rules before) names) ≡ true → (list_all (is_settled rules before) names ≡ true → list_all (is_named before) names ≡ true) →
        (b && list_all (is_named before) names) ≡ true
    by true true e h more = more h
    by true false e h more = absurd (cc)
    by false b e h more = absurd (cc)

all-sorted : (rules before order : List RawRule) → Each (λ rule. Each (λ name. is_named rules name ≡ true) (flat_map extended_in rule.items)) order → is_sorted_among rules before order ≡ true → is_sorted before order ≡ true
all-sorted rules before [] known h = refl
all-sorted rules before (r ∷ order) known h = by (settles rules before r.items) (extends_only before r.items) refl refl h (all-sorted rules (before ++ r ∷ []) order known.1)
  where
    by : (a b : Bool) → settles rules before r.items ≡ a → extends_only before r.items ≡ b → (a && is_sorted_among rules (before ++ r ∷ []) order) ≡ true →
        (is_sorted_among rules (before ++ r ∷ []) order ≡ true → is_sorted (before ++ r ∷ []) order ≡ true) → (b && is_sorted (before ++ r ∷ []) order) ≡ true
    by true true e f h more = more h
    by true false e f h more = absurd (true≢false (sym (all-known-names rules before (flat_map extended_in r.items) known.0 e) ∙ f))
    by false b e f h more = absurd (cc)

module _ (schema : RawSchema) (none : first_among (reference_places schema) ≡ None) (order : List RawRule) (s : Sorted (with_rules [] (abstract_rules schema)) order)
    (all : (name : List ℕ) → is_named (with_rules [] (abstract_rules schema)) name ≡ true → is_named order name ≡ true) where
  abbrev R : List RawRule
  R = abstract_rules schema

  abbrev F : List RawRule
  F = with_rules [] (abstract_rules schema)

  known-items : (rule : RawRule) → Own F rule → Each (λ name. is_named F name ≡ true) (flat_map extended_in rule.items)
  known-items rule own =
      let named : is_named R own.id ≡ true = sym (firsts-named [] R own.id) ∙ own.named in
      let it = look-up-items (GoodRule (known_in schema) R) R own.id named (good-rules schema none) in
      let same : it.0.items ≡ rule.items = sym it.1.1.0 ∙ sym (firsts-same R own.id) ∙ own.items in
      subst (λ (its : List RawItem). Each (λ name. is_named F name ≡ true) (flat_map extended_in its)) same
      (each-map (Good (known_in schema) R it.0) (λ name. is_named F name ≡ true) (λ name g. firsts-named [] R name ∙ g.0) (flat_map extended_in it.0.items) it.1.1.1.1)

  own-named : (name : List ℕ) → is_named order name ≡ true → (is_named F name ≡ true) × (items_named order name ≡ items_named F name)
  own-named name h =
      let it = look-up-items (Own F) order name h s.each in
      let same : it.1.1.1.id ≡ name = (let e : Some it.1.1.1.id ≡ Some name = sym it.1.1.1.is ∙ it.1.0 in cc) in
      (ap (is_named F) (sym same) ∙ it.1.1.1.named, it.1.1.0 ∙ sym it.1.1.1.items ∙ ap (items_named F) same)

  names-same : (name : List ℕ) → is_named order name ≡ is_named F name
  names-same name = by (is_named order name) (is_named F name) refl refl
    where
      by : (a b : Bool) → is_named order name ≡ a → is_named F name ≡ b → a ≡ b
      by true true e f = refl
      by false false e f = refl
      by true false e f = absurd (true≢false (sym (own-named name e).0 ∙ f))
      by false true e f = absurd (true≢false (sym (all name f) ∙ e))

  items-same : (name : List ℕ) → items_named order name ≡ items_named F name
  items-same name = by (is_named order name) refl
    where
      by : (a : Bool) → is_named order name ≡ a → items_named order name ≡ items_named F name
      by true e = (own-named name e).1
      by false e = items-none order name e ∙ sym (items-none F name (sym (names-same name) ∙ e))

  pub is-order : IsOrderOf (abstract_rules schema) order
  is-order = record {
    sorted = all-sorted F [] order (each-map (Own F) (λ rule. Each (λ name. is_named F name ≡ true) (flat_map extended_in rule.items)) known-items order s.each) s.sorted;
    items = λ name. items-same name ∙ firsts-same R name;
    names = λ name. names-same name ∙ firsts-named [] R name;
    no_more = omega (arith, s.room, firsts-length [] R);
  }

pub order-of : (schema : RawSchema) (firsts : List RawRule) (found : Option (List RawRule)) (order : List RawRule) → first_among (reference_places schema) ≡ None → firsts ≡ with_rules [] (abstract_rules schema) → Found firsts found →
    found ≡ Some order → IsOrderOf (abstract_rules schema) order
order-of schema firsts None order none is h e = absurd (cc)
order-of schema firsts (Some o) order none is h e =
    let same : o ≡ order = cc in
    let r = subst (λ (f : List RawRule). Found f (Some o)) is h in
    subst (IsOrderOf (abstract_rules schema)) same (is-order schema none o r.0 r.1)

-- the ids that are kept are those of the schema
pub known-parts : (rules : List RawRule) (schema : RawSchema) → rules ≡ with_rules [] (abstract_rules schema) → with_parts (no_parts rules) schema ≡ known_in schema
known-parts rules schema same =
    λ t. record {
      is_abstract_rule = λ name. one name t;
      is_abstract_pattern = is_among (flat_map abstract_id schema.patterns);
      is_pattern = is_among (flat_map concrete_id schema.patterns);
      is_phase = is_among (map (λ phase. phase.id) schema.phases);
      is_diagnostic = is_among (map (λ diagnostic. diagnostic.id) schema.diagnostics);
      is_property = is_among (map (λ property. property.id) schema.properties);
    }
  where
    one : (name : List ℕ) → is_named rules name ≡ is_named (abstract_rules schema) name
    one name = ap (λ (rs : List RawRule). is_named rs name) same ∙ firsts-named [] (abstract_rules schema) name

pub refused : (known : Known) (firsts : List RawRule) (schema : RawSchema) (error : SchemaError) → known ≡ known_in schema → firsts ≡ with_rules [] (abstract_rules schema) →
    Refuses (first_among (places_with known firsts schema)) error → Refuses (first_among (reference_places schema)) error
refused known firsts schema error same is h = subst (λ (places : List Place). Refuses (first_among places) error) (firsts-places known firsts firsts schema same is) h

pub unbroken : (known : Known) (firsts : List RawRule) (schema : RawSchema) → known ≡ known_in schema → firsts ≡ with_rules [] (abstract_rules schema) →
    first_among (places_with known firsts schema) ≡ None → first_among (reference_places schema) ≡ None
unbroken known firsts schema same is h = ap first_among (sym (firsts-places known firsts firsts schema same is)) ∙ h
