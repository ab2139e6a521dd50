-- What a pattern is meant to amount to is what it amounts to without abstract parts.
use Rattle.std.proofs.Common.{arith, ◌≡◌, ℕ, ◌+◌, cond, not, List, [], ◌∷◌, ◌++◌, map, length, refl, sym, ap, ap₂, ◌∙◌, length-append}
use Rattle.std.specs.Prelude.{codes, Option, Some}
use Rattle.std.specs.List.{flat_map}
use Rattle.std.proofs.lemmas.Grind.{flat_map-append}
use Rattle.sch_model.specs.declared.flat.FlatPattern.{FlatPattern}
use Rattle.sch_model.specs.declared.flat.FlatRule.{FlatRule}
use Rattle.sch_model.specs.declared.parts.Assertion.{Assertion}
use Rattle.sch_model.specs.declared.parts.LetDecl.{LetDecl}
use Rattle.sch_model.specs.declared.parts.Phase.{Phase}
use Rattle.sch_model.specs.declared.raw.RawItem.{RawItem}
use Rattle.sch_model.specs.declared.raw.RawItem.TheVariants as item
use Rattle.sch_model.specs.declared.raw.RawPattern.{RawPattern}
use Rattle.sch_model.specs.declared.raw.RawRule.{RawRule}
use Rattle.sch_model.specs.declared.raw.RawSchema.{RawSchema}
use Rattle.pyx_core.specs.declared.event.Event.{Event}
use Rattle.pyx_core.specs.declared.event.Event.TheVariants.{Start, End}
use Rattle.sch_expansion.specs.Flat.{assertion_in, assertion_with, bare_pattern, concrete_patterns, concrete_rules, flat_pattern, flat_rule, flat_schema, let_in, let_with, pattern_from, rule_with}
use Rattle.sch_expansion.specs.Stands.{replaced, stands_for}
use Rattle.sch_flat.specs.FlatDocument.{assertion_events, element, let_events, only_given, pattern_events, rule_attributes, rule_events}
use Rattle.sch_flat.proofs.SizeLemmas.{bytes-append, nodes-append}
use Rattle.sch_sizes.specs.inner.Amounts.{many, nothing, of_events, plus, sum_all}
use Rattle.sch_sizes.specs.inner.Schemas.{concrete_meant, phase_lets}
use Rattle.sch_sizes.specs.inner.Sums.{flat_amount, flat_rule_amount, item_meant, pattern_meant, rule_meant}
use Rattle.sch_sizes.specs.inner.Weights.{FlatWeights, changed, counts, sizes}
use Rattle.sch_sizes.specs.Sizes.{pattern_lets}
use Rattle.sch_sizes.proofs.AmountLemmas.{nothing-plus, plus_assoc, plus_comm, plus_past, same, sum-filter, sum-map, sum_same, turned}

-- heads that amount to the same whatever they hold
pub record HeadsAlone (weights : FlatWeights) : Type 0 where
  pub rule : (change : List ℕ → List ℕ) (rule : RawRule) (items : List RawItem) → weights.flat_rule (rule_with change rule []) ≡ weights.flat_rule (rule_with change rule items)
  pub pattern : (all : List RawRule) (change : List ℕ → List ℕ) (pattern origin : RawPattern) →
      weights.flat_pattern (bare_pattern pattern) ≡ weights.flat_pattern (pattern_from all change pattern origin)

pub counts_alone : HeadsAlone counts
counts_alone = record { rule = λ change rule items. refl; pattern = λ all change pattern origin. refl }

pub sizes_alone : HeadsAlone sizes
sizes_alone = record { rule = λ change rule items. refl; pattern = λ all change pattern origin. refl }

module _ (weights : FlatWeights) (alone : HeadsAlone weights) (change : List ℕ → List ℕ) where
  -- items, by their lets and their assertions
  items_apart : (items : List RawItem) → sum_all (item_meant (changed weights change)) items ≡
      plus (sum_all weights.flat_let (map (let_with change) (flat_map let_in items))) (sum_all weights.flat_assertion (map (assertion_with change) (flat_map assertion_in items)))
  items_apart [] = sym (nothing-plus nothing)
  items_apart (item.Let decl ∷ items) =
      ap (plus (weights.flat_let (let_with change decl))) (items_apart items)
      ∙ sym (plus_assoc (weights.flat_let (let_with change decl)) (sum_all weights.flat_let (map (let_with change) (flat_map let_in items)))
      (sum_all weights.flat_assertion (map (assertion_with change) (flat_map assertion_in items))))
  items_apart (item.Assertion assertion ∷ items) =
      ap (plus (weights.flat_assertion (assertion_with change assertion))) (items_apart items)
      ∙ plus_past (weights.flat_assertion (assertion_with change assertion)) (sum_all weights.flat_let (map (let_with change) (flat_map let_in items)))
      (sum_all weights.flat_assertion (map (assertion_with change) (flat_map assertion_in items)))
  items_apart (item.Extends node name ∷ items) =
      nothing-plus (sum_all (item_meant (changed weights change)) items) ∙ items_apart items

  rule_apart : (all : List RawRule) (rule : RawRule) → rule_meant (changed weights change) (stands_for all) rule ≡ flat_rule_amount weights (flat_rule all change rule)
  rule_apart all rule =
      let items = flat_map (replaced (stands_for all)) rule.items in
      ap₂ plus (alone.rule change rule items) (items_apart items)

  pub pattern_apart : (all : List RawRule) (pattern origin : RawPattern) →
      pattern_meant (changed weights change) (stands_for all) pattern origin ≡ flat_amount weights (pattern_from all change pattern origin)
  pattern_apart all pattern origin =
      ap₂ plus (alone.pattern all change pattern origin)
      (ap₂ plus (sym (sum-map weights.flat_let (let_with change) origin.lets))
      (sum_same (rule_meant (changed weights change) (stands_for all)) (λ rule. flat_rule_amount weights (flat_rule all change rule)) (concrete_rules origin) (rule_apart all)
      ∙ sym (sum-map (flat_rule_amount weights) (flat_rule all change) (concrete_rules origin))))

-- the patterns of a schema
pub patterns_apart : (weights : FlatWeights) (schema : RawSchema) → sum_all (concrete_meant weights schema) schema.patterns ≡ sum_all (flat_amount weights) (flat_schema schema).patterns
patterns_apart weights schema =
    sum_same (concrete_meant weights schema) (λ pattern. cond (not pattern.is_abstract) (flat_amount weights (flat_pattern schema pattern)) nothing) schema.patterns
    (λ pattern. sym (turned pattern.is_abstract (flat_amount weights (flat_pattern schema pattern)) nothing))
    ∙ sym (sum-filter (λ pattern. flat_amount weights (flat_pattern schema pattern)) (λ pattern. not pattern.is_abstract) schema.patterns)
    ∙ sym (sum-map (flat_amount weights) (flat_pattern schema) (concrete_patterns schema))

-- sizes of events
pub of-append : (xs ys : List Event) → of_events (xs ++ ys) ≡ plus (of_events xs) (of_events ys)
unfolding plus
of-append xs ys = same (of_events (xs ++ ys)) (plus (of_events xs) (of_events ys)) (omega arith) (omega arith) (omega arith) (bytes-append xs ys) (nodes-append xs ys)

of-none : of_events [] ≡ nothing
unfolding nothing
of-none = refl

pub of-flat : {A : Type 0} (f : A → List Event) (xs : List A) → of_events (flat_map f xs) ≡ sum_all (λ x. of_events (f x)) xs
of-flat f [] = of-none
of-flat f (x ∷ xs) = of-append (f x) (flat_map f xs) ∙ ap (plus (of_events (f x))) (of-flat f xs)

of-element : (name : List ℕ) (attributes : List (List ℕ × Option (List ℕ))) (held : List Event) →
    of_events (element name attributes held) ≡ plus (of_events (element name attributes [])) (of_events held)
of-element name attributes held =
    let start = Start name (only_given attributes) ∷ [] in
    let end = End name ∷ [] in
    of-append start (held ++ end)
    ∙ ap (plus (of_events start)) (of-append held end ∙ plus_comm (of_events held) (of_events end))
    ∙ sym (plus_assoc (of_events start) (of_events end) (of_events held))
    ∙ ap (λ x. plus x (of_events held)) (sym (of-append start end))

rule_sized : (rule : FlatRule) → flat_rule_amount sizes rule ≡ of_events (rule_events rule)
rule_sized rule =
    let lets = flat_map let_events rule.lets in
    let assertions = flat_map assertion_events rule.assertions in
    ap (plus (sizes.flat_rule rule))
    (ap₂ plus (sym (of-flat let_events rule.lets)) (sym (of-flat assertion_events rule.assertions)) ∙ sym (of-append lets assertions))
    ∙ sym (of-element (codes "sch:rule") (rule_attributes rule) (lets ++ assertions))

pub pattern_sized : (pattern : FlatPattern) → flat_amount sizes pattern ≡ of_events (pattern_events pattern)
pattern_sized pattern =
    let lets = flat_map let_events pattern.lets in
    let held = flat_map rule_events pattern.rules in
    ap (plus (sizes.flat_pattern pattern))
    (ap₂ plus (sym (of-flat let_events pattern.lets))
    (sum_same (flat_rule_amount sizes) (λ rule. of_events (rule_events rule)) pattern.rules rule_sized ∙ sym (of-flat rule_events pattern.rules))
    ∙ sym (of-append lets held))
    ∙ sym (of-element (codes "sch:pattern") ((codes "id", pattern.id) ∷ []) (lets ++ held))

pub patterns_sized : (patterns : List FlatPattern) → sum_all (flat_amount sizes) patterns ≡ of_events (flat_map pattern_events patterns)
patterns_sized patterns = sum_same (flat_amount sizes) (λ pattern. of_events (pattern_events pattern)) patterns pattern_sized ∙ sym (of-flat pattern_events patterns)

-- counts
pub many-plus : (a b c d e f : ℕ) → plus (many a b c) (many d e f) ≡ many (a + d) (b + e) (c + f)
unfolding plus
many-plus a b c d e f = same (plus (many a b c) (many d e f)) (many (a + d) (b + e) (c + f)) refl refl refl (omega arith) (omega arith)

pub many_is : {a b c d e f : ℕ} → a ≡ d → b ≡ e → c ≡ f → many a b c ≡ many d e f
many_is {a} {b} {c} {d} {e} {f} h k l = ap (λ n. many n b c) h ∙ ap (λ n. many d n c) k ∙ ap (many d e) l

many-none : many 0 0 0 ≡ nothing
unfolding nothing
many-none = refl

lets_counted : (lets : List LetDecl) → sum_all counts.flat_let lets ≡ many 0 0 (length lets)
lets_counted [] = sym many-none
lets_counted (decl ∷ lets) = ap (plus (many 0 0 1)) (lets_counted lets) ∙ many-plus 0 0 1 0 0 (length lets) ∙ many_is (omega arith) (omega arith) (omega arith)

assertions_counted : (assertions : List Assertion) → sum_all counts.flat_assertion assertions ≡ many 0 (length assertions) 0
assertions_counted [] = sym many-none
assertions_counted (assertion ∷ assertions) =
    ap (plus (many 0 1 0)) (assertions_counted assertions) ∙ many-plus 0 1 0 0 (length assertions) 0 ∙ many_is (omega arith) (omega arith) (omega arith)

rule_counted : (rule : FlatRule) → flat_rule_amount counts rule ≡ many 1 (length rule.assertions) (length rule.lets)
rule_counted rule =
    ap (plus (many 1 0 0)) (ap₂ plus (lets_counted rule.lets) (assertions_counted rule.assertions) ∙ many-plus 0 0 (length rule.lets) 0 (length rule.assertions) 0)
    ∙ many-plus 1 0 0 (0 + 0) (0 + length rule.assertions) (length rule.lets + 0)
    ∙ many_is (omega arith) (omega arith) (omega arith)

rules_counted : (all : List FlatRule) → sum_all (flat_rule_amount counts) all ≡
    many (length all) (length (flat_map (λ rule. rule.assertions) all)) (length (flat_map (λ rule. rule.lets) all))
rules_counted [] = sym many-none
rules_counted (rule ∷ all) =
    ap₂ plus (rule_counted rule) (rules_counted all)
    ∙ many-plus 1 (length rule.assertions) (length rule.lets) (length all) (length (flat_map (λ r. r.assertions) all)) (length (flat_map (λ r. r.lets) all))
    ∙ many_is (omega arith) (sym (length-append rule.assertions (flat_map (λ r. r.assertions) all))) (sym (length-append rule.lets (flat_map (λ r. r.lets) all)))

pattern_counted : (pattern : FlatPattern) → flat_amount counts pattern ≡
    many (length pattern.rules) (length (flat_map (λ rule. rule.assertions) pattern.rules)) (length (pattern_lets pattern))
pattern_counted pattern =
    nothing-plus (plus (sum_all counts.flat_let pattern.lets) (sum_all (flat_rule_amount counts) pattern.rules))
    ∙ ap₂ plus (lets_counted pattern.lets) (rules_counted pattern.rules)
    ∙ many-plus 0 0 (length pattern.lets) (length pattern.rules) (length (flat_map (λ rule. rule.assertions) pattern.rules)) (length (flat_map (λ rule. rule.lets) pattern.rules))
    ∙ many_is (omega arith) (omega arith) (sym (length-append pattern.lets (flat_map (λ rule. rule.lets) pattern.rules)))

pub patterns_counted : (patterns : List FlatPattern) → sum_all (flat_amount counts) patterns ≡
    many (length (flat_map (λ pattern. pattern.rules) patterns)) (length (flat_map (λ rule. rule.assertions) (flat_map (λ pattern. pattern.rules) patterns))) (length (flat_map pattern_lets patterns))
patterns_counted [] = sym many-none
patterns_counted (pattern ∷ patterns) =
    let rest = flat_map (λ p. p.rules) patterns in
    ap₂ plus (pattern_counted pattern) (patterns_counted patterns)
    ∙ many-plus (length pattern.rules) (length (flat_map (λ rule. rule.assertions) pattern.rules)) (length (pattern_lets pattern))
    (length rest) (length (flat_map (λ rule. rule.assertions) rest)) (length (flat_map pattern_lets patterns))
    ∙ many_is (sym (length-append pattern.rules rest))
    (sym (length-append (flat_map (λ rule. rule.assertions) pattern.rules) (flat_map (λ rule. rule.assertions) rest)) ∙ ap length (sym (flat_map-append (λ rule. rule.assertions) pattern.rules rest)))
    (sym (length-append (pattern_lets pattern) (flat_map pattern_lets patterns)))

pub phases_counted : (phases : List Phase) → sum_all phase_lets phases ≡ many 0 0 (length (flat_map (λ phase. phase.lets) phases))
phases_counted [] = sym many-none
phases_counted (phase ∷ phases) =
    ap (plus (many 0 0 (length phase.lets))) (phases_counted phases)
    ∙ many-plus 0 0 (length phase.lets) 0 0 (length (flat_map (λ p. p.lets) phases))
    ∙ many_is (omega arith) (omega arith) (sym (length-append phase.lets (flat_map (λ p. p.lets) phases)))
