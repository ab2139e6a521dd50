-- The amount at the place of the rule, or nothing.
use Rattle.std.proofs.Common.{sym, ◌∙◌, ap}
use Rattle.sch_sizes.specs.inner.Sums.{looked}
use Rattle.sch_sizes.proofs.ExtendsLemmas.{looked-none, looked-placed}
use Rattle.sch_sizes.proofs.pattern.Whole.extended.Goals as goal

pub returns-in-Some : goal.returns-in-Some
returns-in-Some g c =
    let whole = c.args.self.now in
    c.amount_at.ensures
    ∙ sym (looked-placed whole.amounts.now whole.rules.now c.as_str.result.now c.in-Some.place c.in-Some.ensures.place)
    ∙ ap (looked whole.amounts.now whole.rules.now) c.as_str.ensures

pub returns-in-None : goal.returns-in-None
returns-in-None g c =
    let whole = c.args.self.now in
    c.none.ensures
    ∙ sym (looked-none whole.amounts.now whole.rules.now c.as_str.result.now (sym c.in-None.ensures.found))
    ∙ ap (looked whole.amounts.now whole.rules.now) c.as_str.ensures
