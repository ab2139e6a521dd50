-- The new id is kept at the end.
use Rattle.std.proofs.Common.{◌≡◌, List, Some, ap, sym, ◌∙◌, string_bytes}
use Rattle.sch_model.specs.declared.raw.RawRule.{RawRule}
use Rattle.sch_references.specs.Extends.{is_named}
use Rattle.sch_references.proofs.OrderLemmas.{kept-push, not-named}
use Rattle.sch_references.proofs.order.RuleOrder.push.Goals as goal

pub invariant_of-self-2 : goal.invariant_of-self-2
invariant_of-self-2 c =
    let key = c.in_ok-id.id in
    let is : c.args.rule.now.id ≡ Some (string_bytes key) = c.in-Some.is ∙ ap Some (sym (c.in_ok-id.ensures.ok ∙ c.as_str.ensures)) in
    rw (c.in_ok-push.ensures.items, c.reserve.ensures.items, c.in_ok-insert_full.ensures.keys)
    (kept-push (λ rule. rule.now) c.self.inside.rules.items c.args.rule c.self.inside.ids.keys key c.self.invariant is
    (ap (λ (rules : List RawRule). is_named rules (string_bytes key)) c.self.view_is ∙ not-named c.args.self.now c.args.rule.now.id (string_bytes key) is c.requires.is_new))
