-- A rule is followed, up to all, unless it extends the id.
use Rattle.std.proofs.Common.{arith, ap, sym, ◌∙◌, subst}
use Rattle.std.specs.List.{flat_map}
use Rattle.sch_model.specs.Items.{extended_in}
use Rattle.sch_references.specs.References.{is_among}
use Rattle.sch_references.specs.inner.Ways.{Adds, AddsAll}
use Rattle.sch_references.proofs.ReachLemmas.{all-longer, reach-end, reach-found, reach-next, reach-start}
use Rattle.sch_references.proofs.order.RuleOrder.search.Goals as goal

pub loop-next-init : goal.loop-next-init
loop-next-init c = record {
  reached = reach-start c.args.self.now c.meet.new.found c.args.name.now c.args.id.now
      (subst (λ found. Adds c.args.self.now c.args.name.now found c.meet.new.found) c.requires.empty c.in_ok-meet.ensures);
  most = omega arith;
}

pub returns-then-is_extended : goal.returns-then-is_extended
returns-then-is_extended c =
    sym (reach-found c.args.self.now c.loop-next.found c.args.name.now c.args.id.now c.loop-next.next c.rule.result.now c.loop-next.invariant.reached c.rule.ensures
    (ap (λ its. is_among (flat_map extended_in its) c.args.id.now) (sym c.as_slice-items.ensures) ∙ sym c.is_extended.ensures ∙ c.if-is_extended.true))

pub loop-next-preserved : goal.loop-next-preserved
loop-next-preserved c =
    let all = subst (λ its. AddsAll c.args.self.now (flat_map extended_in its) c.loop-next.found c.meet_items.new.found) c.as_slice-items.ensures c.in_ok-meet_items.ensures in
    record {
      reached = reach-next c.args.self.now c.loop-next.found c.meet_items.new.found c.args.name.now c.args.id.now c.loop-next.next c.rule.result.now c.loop-next.invariant.reached
          (omega (arith, c.loop-next-test.true, c.len.ensures)) c.rule.ensures
          (ap (λ its. is_among (flat_map extended_in its) c.args.id.now) (sym c.as_slice-items.ensures) ∙ sym c.is_extended.ensures ∙ c.if-is_extended.false) all;
      most = omega (arith, c.loop-next-test.true, c.len.ensures, all-longer c.args.self.now _ c.loop-next.found c.meet_items.new.found all);
    }

pub returns : goal.returns
returns c =
    sym (reach-end c.args.self.now c.loop-next.found c.args.name.now c.args.id.now c.loop-next.next c.loop-next.invariant.reached
    (omega (arith, c.loop-next-test.false, c.len.ensures)) c.loop-next.invariant.most c.requires.differ)
