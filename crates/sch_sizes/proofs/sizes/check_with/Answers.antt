-- The first rule that is broken.
use Rattle.std.proofs.Common.{◌≡◌, ◌∙◌, sym, subst, length, ◌≤◌, Bool, Option, lit<, nat_lt, not, false}
use Rattle.std.specs.List.{flat_map}
use Rattle.sch_base.specs.declared.limits.TheConstants.{MAX_ASSERTIONS, MAX_LETS, MAX_RULES}
use Rattle.sch_model.specs.declared.fault.SchemaFault.{SchemaFault}
use Rattle.sch_expansion.specs.Flat.{flat_schema}
use Rattle.sch_flat.specs.FlatDocument.{pattern_events}
use Rattle.sch_flat.specs.FlatSize.{capped, is_small}
use Rattle.sch_references.specs.Ended.{Ended}
use Rattle.sch_model.specs.declared.raw.RawSchema.{RawSchema}
use Rattle.sch_sizes.specs.declared.amount.Amount.{Amount}
use Rattle.sch_sizes.specs.inner.Amounts.{cap}
use Rattle.sch_sizes.specs.inner.Schemas.{schema_counts}
use Rattle.sch_sizes.specs.Sizes.{all_assertions, all_lets, all_rules}
use Rattle.sch_sizes.proofs.AmountLemmas.{assertion_count_is, let_count_is, rule_count_is, size_back}
use Rattle.sch_sizes.proofs.FaultLemmas.{above, none_broken, rule_16, rule_17, rule_18, rule_19, within}
use Rattle.sch_sizes.proofs.sizes.check_with.Goals as goal

-- whether each count is past its limit
abbrev many_rules : RawSchema → Bool
many_rules schema = nat_lt MAX_RULES (length (all_rules (flat_schema schema)))

abbrev many_assertions : RawSchema → Bool
many_assertions schema = nat_lt MAX_ASSERTIONS (length (all_assertions (flat_schema schema)))

abbrev many_lets : RawSchema → Bool
many_lets schema = nat_lt MAX_LETS (length (all_lets (flat_schema schema)))

-- the counts decide whether they are
module _ (schema : RawSchema) (counts : Amount) (found : counts ≡ cap (schema_counts (flat_schema schema))) where
  some_rules : counts.rule_count ≡ capped (length (all_rules (flat_schema schema)))
  some_rules = rule_count_is counts (length (all_rules (flat_schema schema))) (length (all_assertions (flat_schema schema))) (length (all_lets (flat_schema schema))) found

  some_assertions : counts.assertion_count ≡ capped (length (all_assertions (flat_schema schema)))
  some_assertions = assertion_count_is counts (length (all_rules (flat_schema schema))) (length (all_assertions (flat_schema schema))) (length (all_lets (flat_schema schema))) found

  some_lets : counts.let_count ≡ capped (length (all_lets (flat_schema schema)))
  some_lets = let_count_is counts (length (all_rules (flat_schema schema))) (length (all_assertions (flat_schema schema))) (length (all_lets (flat_schema schema))) found

  few_rules : counts.rule_count ≤ MAX_RULES → many_rules schema ≡ false
  few_rules = within MAX_RULES (length (all_rules (flat_schema schema))) counts.rule_count (lit< tt) some_rules

  few_assertions : counts.assertion_count ≤ MAX_ASSERTIONS → many_assertions schema ≡ false
  few_assertions = within MAX_ASSERTIONS (length (all_assertions (flat_schema schema))) counts.assertion_count (lit< tt) some_assertions

  few_lets : counts.let_count ≤ MAX_LETS → many_lets schema ≡ false
  few_lets = within MAX_LETS (length (all_lets (flat_schema schema))) counts.let_count (lit< tt) some_lets

pub returns-then-counts : goal.returns-then-counts
returns-then-counts c = λ replacing.
    let schema = c.args.schema.now in
    let counts = c.in_ok-counts.counts in
    let found = c.in_ok-counts.ensures c.requires replacing in
    subst (λ (f : Option SchemaFault). Ended f c.refuse.result)
    (sym (rule_16 schema.head.node (many_rules schema) (many_assertions schema) (many_lets schema) (not (is_small (flat_schema schema)))
    (above MAX_RULES (length (all_rules (flat_schema schema))) counts.rule_count (some_rules schema counts found) c.if-counts.true)))
    c.refuse.ensures

pub returns-then-counts-2 : goal.returns-then-counts-2
returns-then-counts-2 c = λ replacing.
    let schema = c.args.schema.now in
    let counts = c.in_ok-counts.counts in
    let found = c.in_ok-counts.ensures c.requires replacing in
    subst (λ (f : Option SchemaFault). Ended f c.refuse-then-counts-2.result)
    (sym (rule_17 schema.head.node (many_rules schema) (many_assertions schema) (many_lets schema) (not (is_small (flat_schema schema)))
    (few_rules schema counts found c.if-counts.false)
    (above MAX_ASSERTIONS (length (all_assertions (flat_schema schema))) counts.assertion_count (some_assertions schema counts found) c.if-counts-2.true)))
    c.refuse-then-counts-2.ensures

pub returns-then-counts-3 : goal.returns-then-counts-3
returns-then-counts-3 c = λ replacing.
    let schema = c.args.schema.now in
    let counts = c.in_ok-counts.counts in
    let found = c.in_ok-counts.ensures c.requires replacing in
    subst (λ (f : Option SchemaFault). Ended f c.refuse-then-counts-3.result)
    (sym (rule_18 schema.head.node (many_rules schema) (many_assertions schema) (many_lets schema) (not (is_small (flat_schema schema)))
    (few_rules schema counts found c.if-counts.false) (few_assertions schema counts found c.if-counts-2.false)
    (above MAX_LETS (length (all_lets (flat_schema schema))) counts.let_count (some_lets schema counts found) c.if-counts-3.true)))
    c.refuse-then-counts-3.ensures

pub returns-then-fits : goal.returns-then-fits
returns-then-fits c = λ replacing.
    let schema = c.args.schema.now in
    let counts = c.in_ok-counts.counts in
    let found = c.in_ok-counts.ensures c.requires replacing in
    let patterns = (flat_schema schema).patterns in
    let size = size_back c.in_ok-patterns.patterns (flat_map pattern_events patterns) (c.in_ok-patterns.ensures c.requires replacing) in
    none_broken schema.head.node (many_rules schema) (many_assertions schema) (many_lets schema) (is_small (flat_schema schema))
    (few_rules schema counts found c.if-counts.false) (few_assertions schema counts found c.if-counts-2.false) (few_lets schema counts found c.if-counts-3.false)
    (sym (c.fits.ensures patterns (c.size.ensures ∙ size)) ∙ c.if-fits.true)

pub returns : goal.returns
returns c = λ replacing.
    let schema = c.args.schema.now in
    let counts = c.in_ok-counts.counts in
    let found = c.in_ok-counts.ensures c.requires replacing in
    let patterns = (flat_schema schema).patterns in
    let size = size_back c.in_ok-patterns.patterns (flat_map pattern_events patterns) (c.in_ok-patterns.ensures c.requires replacing) in
    subst (λ (f : Option SchemaFault). Ended f c.refuse-2.result)
    (sym (rule_19 schema.head.node (many_rules schema) (many_assertions schema) (many_lets schema) (is_small (flat_schema schema))
    (few_rules schema counts found c.if-counts.false) (few_assertions schema counts found c.if-counts-2.false) (few_lets schema counts found c.if-counts-3.false)
    (sym (c.fits.ensures patterns (c.size.ensures ∙ size)) ∙ c.if-fits.false)))
    c.refuse-2.ensures
