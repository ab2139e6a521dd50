-- One whose id is new is put at the end, and one whose id is there is dropped.
use Rattle.std.proofs.Common.{◌≡◌, None, sym, ◌∙◌, subst}
use Rattle.sch_plan.specs.inner.Ids.{found_in}
use Rattle.sch_plan.proofs.IdLemmas.{found-again, found-new}
use Rattle.sch_plan.proofs.ScopeLemmas.{none-there}
use Rattle.sch_plan.proofs.ids.keep.Goals as goal

pub returns-then-contains_key : goal.returns-then-contains_key
returns-then-contains_key c =
    λ more id. found-again c.args.found.now.entries c.args.diagnostic more id (rw c.as_str.ensures at (sym c.contains_key.ensures ∙ c.if-contains_key.true))

pub returns : goal.returns
returns c =
    let same = c.in_ok-id.ensures.ok ∙ c.as_str-2.ensures in
    let none = subst (λ i. found_in c.args.found.now.entries i ≡ None) (sym same) (none-there _ (rw c.as_str.ensures at (sym c.contains_key.ensures ∙ c.if-contains_key.false))) in
    λ more id. found-new c.args.found.now _ c.in_ok-id.id c.args.diagnostic more id same none c.in_ok-insert.ensures.entries
