-- An unknown name and one that was left are passed, one that was entered closes a cycle, and another is entered.
use Rattle.std.proofs.Common.{refl, sym, ◌∙◌}
use Rattle.sch_references.proofs.SortLemmas.{busy-cycle, busy-enter, enter-less, found-settled, pass-extends, unknown-settled}
use Rattle.sch_references.proofs.search.Search.follow.Goals as goal

pub returns-in_default-clause-after : goal.returns-in_default-clause-after
returns-in_default-clause-after c =
    pass-extends c.args.rules.now c.args.self.now c.args.top c.args.rest c.args.name.now c.requires.busy c.requires.extends
    (unknown-settled c.args.rules.now c.args.self.now.order c.args.name.now (sym c.in_default.ensures.found))

pub returns-then-is_some-clause-after : goal.returns-then-is_some-clause-after
returns-then-is_some-clause-after c =
    pass-extends c.args.rules.now c.args.self.now c.args.top c.args.rest c.args.name.now c.requires.busy c.requires.extends
    (found-settled c.args.rules.now c.args.self.now.order c.args.name.now (sym c.place_of-2.ensures.found ∙ sym c.is_some.ensures ∙ c.if-is_some.true))

pub returns-then-is_some-2-clause-after : goal.returns-then-is_some-2-clause-after
returns-then-is_some-2-clause-after c =
    busy-cycle c.args.rules.now c.args.self.now c.args.top c.args.rest.now c.args.name.now c.requires.busy c.requires.extends
    (sym c.place_of-2.ensures.found ∙ sym c.is_some.ensures ∙ c.if-is_some.false) (sym c.place_of-3.ensures.found ∙ sym c.is_some-2.ensures ∙ c.if-is_some-2.true)

pub returns-clause-after : goal.returns-clause-after
returns-clause-after c =
    busy-enter c.args.rules.now c.args.self.now (record { entered = c.add.new.self; order = c.args.self.now.order; below = c.push.new.self }) c.args.top
    (record { name = c.args.name; rule = c.rule-rule.result; rest = c.as_slice.result }) c.args.rest.now c.in-Some.place c.requires.busy c.requires.extends (sym c.in-Some.ensures.found) c.in-Some.ensures.place
    c.rule-rule.ensures c.as_slice.ensures refl c.in_ok-add.ensures c.in_ok-push.ensures.items

pub returns-clause-less : goal.returns-clause-less
returns-clause-less c =
    enter-less c.args.rules.now c.args.self.now (record { entered = c.add.new.self; order = c.args.self.now.order; below = c.push.new.self }) c.args.top
    (record { name = c.args.name; rule = c.rule-rule.result; rest = c.as_slice.result }) c.in-Some.place (sym c.in-Some.ensures.found) c.in-Some.ensures.place
    c.rule-rule.ensures c.as_slice.ensures c.in_ok-add.ensures c.in_ok-push.ensures.items (sym c.place_of-3.ensures.found ∙ sym c.is_some-2.ensures ∙ c.if-is_some-2.false)
