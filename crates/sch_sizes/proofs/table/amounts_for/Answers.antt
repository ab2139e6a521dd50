-- What is looked up, where it makes a difference.
use Rattle.std.proofs.Common.{◌≡◌, ◌∙◌, ap, sym, false}
use Rattle.std.specs.List.{list_any}
use Rattle.sch_sizes.specs.inner.Sums.{extends_some, looked, pattern_found}
use Rattle.sch_sizes.specs.inner.Tables.{stands_amounts}
use Rattle.sch_sizes.proofs.ExtendsLemmas.{pattern_alone}
use Rattle.sch_sizes.proofs.table.amounts_for.Goals as goal

pub returns-then-not-some_extends : goal.returns-then-not-some_extends
returns-then-not-some_extends g c = λ all order replacing pattern.
    let weights = g.S.Scale.weights c.args.scale.now in
    let ordered = c.args.rules.now in
    let none : list_any extends_some c.args.origin.now.rules ≡ false =
    ap (list_any extends_some) (sym c.as_slice.ensures) ∙ sym c.some_extends.ensures ∙ c.if-not-some_extends.true in
    pattern_alone weights (looked _ ordered) (looked (stands_amounts weights all ordered) ordered) pattern c.args.origin.now none

pub returns : goal.returns
returns g c = λ all order replacing pattern.
    let weights = g.S.Scale.weights c.args.scale.now in
    ap (λ amounts. pattern_found weights (looked amounts c.args.rules.now) pattern c.args.origin.now) (c.in_ok-amounts.ensures all order replacing)
