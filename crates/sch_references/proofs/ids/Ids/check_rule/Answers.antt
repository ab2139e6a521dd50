-- One more, up to all.
use Rattle.std.proofs.Common.{sym, ap, ◌∙◌}
use Rattle.std.specs.List.{flat_map}
use Rattle.sch_references.specs.References.{item_places}
use Rattle.sch_references.specs.inner.KnownIds.{known_by}
use Rattle.sch_references.specs.inner.Onto.{onto}
use Rattle.sch_references.proofs.OntoLemmas.{earlier-none, onto-all, onto-next}
use Rattle.sch_references.proofs.ids.Ids.check_rule.Goals as goal

pub loop-item-init : goal.loop-item-init
loop-item-init c = sym (earlier-none c.args.first.now)

pub loop-item-preserved : goal.loop-item-preserved
loop-item-preserved c =
    onto-next (item_places (known_by c.args.self.now) c.args.self.now.rules c.args.rule.now) c.as_slice-item-items.result.now c.loop-item.item-index c.item-item.result c.args.first.now c.loop-item.first c.check_item.new.first
    c.item-item.is c.loop-item-test.true c.loop-item.invariant c.in_ok-check_item.ensures

pub returns : goal.returns
returns c =
    onto-all (item_places (known_by c.args.self.now) c.args.self.now.rules c.args.rule.now) c.as_slice-item-items.result.now c.loop-item.item-index c.args.first.now c.loop-item.first c.loop-item-test.false c.loop-item.auto.item-index-end c.loop-item.invariant
    ∙ ap (λ xs. onto c.args.first.now (flat_map (item_places (known_by c.args.self.now) c.args.self.now.rules c.args.rule.now) xs)) c.as_slice-item-items.ensures
