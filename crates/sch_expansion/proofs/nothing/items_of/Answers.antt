use Rattle.std.proofs.Common.{[], sym, ap, ◌∙◌, is_some}
use Rattle.sch_expansion.specs.inner.Walks.{IsInPlaceOf}
use Rattle.sch_expansion.proofs.WalkLemmas.{nothing-in-place, rule-in-place, something-in-place, told-in-place, unnamed-in-place}
use Rattle.sch_expansion.proofs.nothing.items_of.Goals as goal
use Rattle.sch_expansion.proofs.nothing.items_of.Goals.{in_default-via-in-Some+else-not-says_nothing, in_default-via-in_default}

pub returns-in-Some : goal.returns-in-Some
returns-in-Some c = record {
  place = rw c.as_slice.ensures
      (rule-in-place c.args.rules.now c.args.name.now c.in-Some.place c.rule.result.now c.requires.sorted c.in-Some.ensures.place c.rule.ensures);
  nothing = λ known. rw c.as_slice.ensures
      (something-in-place c.args.rules.now c.args.table.now c.args.name.now c.in-Some.place c.rule.result.now c.requires.sorted c.requires.told c.in-Some.ensures.place c.rule.ensures
      (sym c.says_nothing.ensures ∙ c.if-not-says_nothing.true) known);
}

pub returns-in_default : goal.returns-in_default
returns-in_default c =
    let place : IsInPlaceOf c.args.rules.now c.args.name.now [] = elim c.in_default.branch [
      | in_default-via-in-Some+else-not-says_nothing w ↦
          told-in-place c.args.rules.now c.args.table.now c.args.name.now w.in-Some.place c.requires.sorted c.requires.told w.in-Some.ensures.place
          (sym w.says_nothing.ensures ∙ w.if-not-says_nothing.false)
      | in_default-via-in_default w ↦
          unnamed-in-place c.args.rules.now c.args.name.now c.requires.sorted (sym c.place_of.ensures.found ∙ ap is_some w.in_default.is)
    ] in
    record { place = place; nothing = λ _. nothing-in-place c.args.rules.now c.args.name.now place }
