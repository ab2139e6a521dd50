-- One pattern more, up to all.
use Rattle.std.proofs.Common.{◌∙◌, ap, sym}
use Rattle.std.proofs.lemmas.List.{take_all}
use Rattle.sch_references.specs.Extends.{abstract_rules}
use Rattle.sch_sizes.specs.inner.Amounts.{cap, sum_all}
use Rattle.sch_sizes.specs.inner.Schemas.{concrete_meant}
use Rattle.sch_sizes.specs.inner.Tables.{stands_amounts}
use Rattle.sch_sizes.specs.inner.Weights.{change_by, changed, sizes}
use Rattle.sch_sizes.proofs.AmountLemmas.{cap-nothing, sum_next}
use Rattle.sch_sizes.proofs.SchemaLemmas.{next_pattern, patterns_size_is, skip_pattern}
use Rattle.sch_sizes.proofs.sizes.patterns_size.Goals as goal
use Rattle.sch_sizes.proofs.sizes.patterns_size.Goals.{then-not-pattern+in_ok-amount, else-not-pattern}

pub loop-pattern-init : goal.loop-pattern-init
loop-pattern-init c = λ order replacing. c.none-sum.ensures ∙ sym cap-nothing

pub loop-pattern-preserved : goal.loop-pattern-preserved
loop-pattern-preserved c =
    let schema = c.args.schema.now in
    let meant = concrete_meant sizes schema in
    let items = c.as_slice-pattern-items.result.now in
    let i = c.loop-pattern.pattern-index in
    let pattern = c.pattern-item.result in
    elim c.if-not-pattern.branch [
      | then-not-pattern+in_ok-amount w ↦ λ order replacing.
          let plain = w.as_slice.ensures.value ∙ c.in_ok-plain.ensures (abstract_rules schema) order replacing
          ∙ ap (λ params. stands_amounts (changed sizes (change_by params)) (abstract_rules schema) c.args.rules.now) c.plain-scale.ensures in
          w.sum-is ∙ w.plus-sum.ensures
          ∙ next_pattern schema pattern c.loop-pattern.sum w.in_ok-amount.amount w.if-not-pattern.true (w.in_ok-amount.ensures order replacing plain)
          ∙ sum_next meant items i pattern c.loop-pattern.sum c.pattern-item.is c.loop-pattern-test.true (c.loop-pattern.invariant order replacing)
      | else-not-pattern w ↦ λ order replacing.
          let so_far = c.loop-pattern.invariant order replacing in
          w.sum-is
          ∙ skip_pattern schema pattern c.loop-pattern.sum _ w.if-not-pattern.false so_far
          ∙ sum_next meant items i pattern c.loop-pattern.sum c.pattern-item.is c.loop-pattern-test.true so_far
    ]

pub returns : goal.returns
returns c = λ order replacing.
    let schema = c.args.schema.now in
    let items = c.as_slice-pattern-items.result.now in
    let meant = concrete_meant sizes schema in
    c.loop-pattern.invariant order replacing
    ∙ ap (λ l. cap (sum_all meant l)) (take_all c.loop-pattern.pattern-index items c.loop-pattern-test.false ∙ c.as_slice-pattern-items.ensures)
    ∙ patterns_size_is schema
