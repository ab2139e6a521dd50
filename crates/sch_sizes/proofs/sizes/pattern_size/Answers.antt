-- A pattern that is no instance, by the amounts that are known.
use Rattle.std.proofs.Common.{◌≡◌, ◌∙◌, ap, sym, None}
use Rattle.sch_expansion.specs.Flat.{flat_pattern_by}
use Rattle.sch_flat.specs.FlatDocument.{pattern_events}
use Rattle.sch_references.specs.Extends.{abstract_rules}
use Rattle.sch_sizes.specs.inner.Amounts.{cap, of_events}
use Rattle.sch_sizes.specs.inner.Sums.{looked, pattern_found}
use Rattle.sch_sizes.specs.inner.Weights.{change_by, changed, sizes}
use Rattle.sch_sizes.proofs.SchemaLemmas.{sized_right}
use Rattle.sch_sizes.proofs.sizes.pattern_size.Goals as goal

pub returns-in_default : goal.returns-in_default
returns-in_default c = λ order replacing plain.
    let schema = c.args.schema.now in
    let pattern = c.args.pattern.now in
    let none : pattern.is_a ≡ None = cc in
    c.of_pattern.ensures
    ∙ ap (λ params. pattern_found (changed sizes (change_by params)) (looked c.args.plain.now c.args.rules.now) pattern pattern) c.plain-scale.ensures
    ∙ sized_right (abstract_rules schema) c.args.rules.now order replacing (λ text. text) c.args.plain.now plain pattern pattern
    ∙ ap (λ name. cap (of_events (pattern_events (flat_pattern_by schema pattern name)))) (sym none)
