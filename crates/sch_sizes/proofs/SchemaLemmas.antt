-- What is found of patterns is what they amount to without abstract parts.
use Rattle.std.proofs.Common.{arith, ◌≡◌, ℕ, ◌+◌, Bool, true, false, cond, List, ◌++◌, Option, None, Some, map, length, refl, sym, ap, ap₂, ◌∙◌, length-append}
use Rattle.std.specs.List.{flat_map}
use Rattle.sch_model.specs.declared.parts.Part.{Part}
use Rattle.sch_model.specs.declared.raw.RawPattern.{RawPattern}
use Rattle.sch_model.specs.declared.raw.RawRule.{RawRule}
use Rattle.sch_model.specs.declared.raw.RawSchema.{RawSchema}
use Rattle.sch_expansion.specs.Filled.{filled}
use Rattle.sch_expansion.specs.Flat.{bare_pattern, flat_pattern, flat_pattern_by, flat_schema, instance_of, part_with, pattern_from, pattern_named}
use Rattle.sch_expansion.specs.Stands.{ExtendsAreReplaced, stands_for}
use Rattle.sch_references.specs.Extends.{abstract_rules}
use Rattle.sch_references.specs.Order.{IsOrderOf}
use Rattle.sch_flat.specs.FlatDocument.{part_events, pattern_events}
use Rattle.sch_sizes.specs.declared.amount.Amount.{Amount}
use Rattle.sch_sizes.specs.inner.Amounts.{cap, many, nothing, of_events, plus, sum_all}
use Rattle.sch_sizes.specs.inner.Schemas.{base_counts, concrete_found, concrete_meant, found_from, origin_by, phase_lets, schema_counts}
use Rattle.sch_sizes.specs.inner.Sums.{flat_amount, looked, pattern_found, pattern_meant}
use Rattle.sch_sizes.specs.inner.Tables.{stands_amounts}
use Rattle.sch_sizes.specs.inner.Weights.{Weights, changed, counts, sizes}
use Rattle.sch_sizes.specs.Sizes.{all_assertions, all_rules, pattern_lets}
use Rattle.sch_sizes.proofs.AmountLemmas.{cap-cap, cap_parts, plus-nothing, sum-map, sum_same_cap}
use Rattle.sch_sizes.proofs.ExtendsLemmas.{looked_right, pattern_right}
use Rattle.sch_sizes.proofs.FlatLemmas.{counts_alone, many-plus, many_is, of-flat, pattern_apart, pattern_sized, patterns_apart, patterns_counted, patterns_sized, phases_counted, sizes_alone}

-- the parts of a message
pub parts_sized : (change : List ℕ → List ℕ) (parts : List Part) →
    cap (sum_all (λ part. cap (of_events (part_events (part_with change part)))) parts) ≡ cap (of_events (flat_map part_events (map (part_with change) parts)))
parts_sized change parts =
    sum_same_cap (λ part. cap (of_events (part_events (part_with change part)))) (λ part. of_events (part_events (part_with change part))) parts
    (λ part. cap-cap (of_events (part_events (part_with change part))))
    ∙ ap cap (sym (sum-map (λ part. of_events (part_events part)) (part_with change) parts) ∙ sym (of-flat part_events (map (part_with change) parts)))

module _ (all ordered : List RawRule) (order : IsOrderOf all ordered) (replacing : ExtendsAreReplaced all) where
  found_right : (weights : Weights) (amounts : List Amount) → amounts ≡ stands_amounts weights all ordered → (pattern origin : RawPattern) →
      pattern_found weights (looked amounts ordered) pattern origin ≡ cap (pattern_meant weights (stands_for all) pattern origin)
  found_right weights amounts is = pattern_right weights (looked amounts ordered) (stands_for all) (looked_right weights all ordered order replacing amounts is)

  -- the size of a pattern
  pub sized_right : (change : List ℕ → List ℕ) (amounts : List Amount) → amounts ≡ stands_amounts (changed sizes change) all ordered → (pattern origin : RawPattern) →
      pattern_found (changed sizes change) (looked amounts ordered) pattern origin ≡ cap (of_events (pattern_events (pattern_from all change pattern origin)))
  sized_right change amounts is pattern origin =
      found_right (changed sizes change) amounts is pattern origin
      ∙ ap cap (pattern_apart sizes sizes_alone change all pattern origin ∙ pattern_sized (pattern_from all change pattern origin))

  -- the counts of a pattern, which no change of texts touches
  counted_right : (change : List ℕ → List ℕ) (amounts : List Amount) → amounts ≡ stands_amounts (changed counts (λ text. text)) all ordered → (pattern origin : RawPattern) →
      pattern_found (changed counts (λ text. text)) (looked amounts ordered) pattern origin ≡ cap (flat_amount counts (pattern_from all change pattern origin))
  counted_right change amounts is pattern origin =
      found_right (changed counts change) amounts is pattern origin ∙ ap cap (pattern_apart counts counts_alone change all pattern origin)

bare_counted : (pattern : RawPattern) → cap (counts.flat_pattern (bare_pattern pattern)) ≡ cap (flat_amount counts (bare_pattern pattern))
bare_counted pattern = ap cap (sym (ap (plus nothing) (plus-nothing nothing) ∙ plus-nothing nothing))

module _ (schema : RawSchema) (ordered : List RawRule) (order : IsOrderOf (abstract_rules schema) ordered) (replacing : ExtendsAreReplaced (abstract_rules schema))
    (amounts : List Amount) (is : amounts ≡ stands_amounts (changed counts (λ text. text)) (abstract_rules schema) ordered) where
  instance_counted : (pattern : RawPattern) (origin : Option RawPattern) →
      found_from (changed counts (λ text. text)) (looked amounts ordered) pattern origin ≡ cap (flat_amount counts (instance_of (abstract_rules schema) pattern origin))
  instance_counted pattern None = bare_counted pattern
  instance_counted pattern (Some origin) = counted_right (abstract_rules schema) ordered order replacing (filled pattern.params) amounts is pattern origin

  origin_counted : (pattern : RawPattern) (name : Option (List ℕ)) →
      found_from (changed counts (λ text. text)) (looked amounts ordered) pattern (origin_by schema.patterns pattern name) ≡ cap (flat_amount counts (flat_pattern_by schema pattern name))
  origin_counted pattern None = counted_right (abstract_rules schema) ordered order replacing (λ text. text) amounts is pattern pattern
  origin_counted pattern (Some name) = instance_counted pattern (pattern_named schema name)

  concrete_counted : (pattern : RawPattern) → cap (concrete_found (changed counts (λ text. text)) (looked amounts ordered) schema.patterns pattern) ≡ cap (concrete_meant counts schema pattern)
  concrete_counted pattern = by pattern.is_abstract
    where
      by : (b : Bool) → cap (cond b nothing (found_from (changed counts (λ text. text)) (looked amounts ordered) pattern (origin_by schema.patterns pattern pattern.is_a))) ≡
          cap (cond b nothing (flat_amount counts (flat_pattern schema pattern)))
      by true = refl
      by false = ap cap (origin_counted pattern pattern.is_a) ∙ cap-cap (flat_amount counts (flat_pattern schema pattern))

  patterns_right : cap (sum_all (concrete_found (changed counts (λ text. text)) (looked amounts ordered) schema.patterns) schema.patterns) ≡ cap (sum_all (flat_amount counts) (flat_schema schema).patterns)
  patterns_right =
      sum_same_cap (concrete_found (changed counts (λ text. text)) (looked amounts ordered) schema.patterns) (concrete_meant counts schema) schema.patterns concrete_counted
      ∙ ap cap (patterns_apart counts schema)

  -- the counts of a schema
  pub counts_right : cap (plus (base_counts schema) (cap (sum_all (concrete_found (changed counts (λ text. text)) (looked amounts ordered) schema.patterns) schema.patterns))) ≡ cap (schema_counts (flat_schema schema))
  counts_right =
      let own = many 0 0 (length schema.lets) in
      let phases = flat_map (λ phase. phase.lets) schema.phases in
      let patterns = (flat_schema schema).patterns in
      let held = flat_map pattern_lets patterns in
      let found = sum_all (concrete_found (changed counts (λ text. text)) (looked amounts ordered) schema.patterns) schema.patterns in
      cap_parts (base_counts schema) (cap found) (plus own (sum_all phase_lets schema.phases)) (sum_all (flat_amount counts) patterns)
      (cap-cap (plus own (cap (sum_all phase_lets schema.phases)))
      ∙ cap_parts own (cap (sum_all phase_lets schema.phases)) own (sum_all phase_lets schema.phases) refl (cap-cap (sum_all phase_lets schema.phases)))
      (cap-cap found ∙ patterns_right)
      ∙ ap cap (ap₂ plus (ap (plus own) (phases_counted schema.phases) ∙ many-plus 0 0 (length schema.lets) 0 0 (length phases)) (patterns_counted patterns)
      ∙ many-plus (0 + 0) (0 + 0) (length schema.lets + length phases) (length (all_rules (flat_schema schema))) (length (all_assertions (flat_schema schema))) (length held)
      ∙ many_is (omega arith) (omega arith) (omega (arith, length-append schema.lets (phases ++ held), length-append phases held)))

-- a sum of sizes with one pattern more, and with one that is abstract
pub next_pattern : (schema : RawSchema) (pattern : RawPattern) (sum amount : Amount) → pattern.is_abstract ≡ false →
    amount ≡ cap (of_events (pattern_events (flat_pattern schema pattern))) → cap (plus sum amount) ≡ cap (plus sum (concrete_meant sizes schema pattern))
next_pattern schema pattern sum amount concrete is = by pattern.is_abstract concrete
  where
    by : (b : Bool) → b ≡ false → cap (plus sum amount) ≡ cap (plus sum (cond b nothing (flat_amount sizes (flat_pattern schema pattern))))
    by true h = absurd (cc)
    by false h =
        let size = of_events (pattern_events (flat_pattern schema pattern)) in
        cap_parts sum amount sum (flat_amount sizes (flat_pattern schema pattern)) refl
        (ap cap is ∙ cap-cap size ∙ ap cap (sym (pattern_sized (flat_pattern schema pattern))))

pub skip_pattern : (schema : RawSchema) (pattern : RawPattern) (sum so_far : Amount) → pattern.is_abstract ≡ true → sum ≡ cap so_far →
    sum ≡ cap (plus sum (concrete_meant sizes schema pattern))
skip_pattern schema pattern sum so_far abstract is = by pattern.is_abstract abstract
  where
    by : (b : Bool) → b ≡ true → sum ≡ cap (plus sum (cond b nothing (flat_amount sizes (flat_pattern schema pattern))))
    by false h = absurd (cc)
    by true h = is ∙ sym (cap-cap so_far) ∙ ap cap (sym is) ∙ ap cap (sym (plus-nothing sum))

pub patterns_size_is : (schema : RawSchema) → cap (sum_all (concrete_meant sizes schema) schema.patterns) ≡ cap (of_events (flat_map pattern_events (flat_schema schema).patterns))
patterns_size_is schema = ap cap (patterns_apart sizes schema ∙ patterns_sized (flat_schema schema).patterns)
