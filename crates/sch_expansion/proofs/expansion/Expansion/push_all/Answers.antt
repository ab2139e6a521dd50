use Rattle.std.proofs.Common.{◌++◌, Bor, List, map, sym, ap, ◌∙◌}
use Rattle.std.specs.List.{flat_map}
use Rattle.sch_model.specs.declared.raw.RawItem.{RawItem}
use Rattle.sch_expansion.specs.Flat.{assertion_in, assertion_with, let_in, let_with}
use Rattle.sch_expansion.specs.inner.Copies.{change_of}
use Rattle.sch_expansion.specs.inner.Walks.{pending_items}
use Rattle.sch_expansion.proofs.WalkLemmas.{assertions-next, ended-fewer, ended-items, lets-next, visited-fewer, visited-items}
use Rattle.sch_expansion.proofs.expansion.Expansion.push_all.Goals as goal

pub loop-stretch-smaller-in-Continue-branch-3 : goal.loop-stretch-smaller-in-Continue-branch-3
loop-stretch-smaller-in-Continue-branch-3 c =
    visited-fewer (λ (items : Bor (List RawItem)). items.now) c.args.self.now c.pop.new.self.items c.loop-stretch.pending.items c.in-Some.stretch
    (map (λ items. items.now) c.stack_up.new.pending.items) c.in-Some-split_first.item.now c.in-Some-split_first.rest.now c.reached.result.now
    c.in-Some.ensures.items c.in_ok-stack_up.ensures c.in-Some-split_first.ensures.cases.0 c.reached.ensures

pub loop-stretch-preserved-in-Continue-branch-3 : goal.loop-stretch-preserved-in-Continue-branch-3
loop-stretch-preserved-in-Continue-branch-3 c =
    let visited = visited-items (λ (items : Bor (List RawItem)). items.now) c.args.self.now c.pop.new.self.items c.loop-stretch.pending.items c.in-Some.stretch
    (map (λ items. items.now) c.stack_up.new.pending.items) c.in-Some-split_first.item.now c.in-Some-split_first.rest.now c.reached.result.now
    c.in-Some.ensures.items c.in_ok-stack_up.ensures c.in-Some-split_first.ensures.cases.0 c.reached.ensures in (
      lets-next (let_with (change_of c.args.copier.now)) c.loop-stretch.parts.lets c.push-in-Some-split_first.new.self.lets c.in-Some-split_first.item.now
          (pending_items c.args.self.now (map (λ items. items.now) c.loop-stretch.pending.items))
          (pending_items c.args.self.now (map (λ items. items.now) c.stack_up.new.pending.items)) visited c.in_ok-push-2.ensures.lets
          ∙ c.loop-stretch.invariant.0,
      assertions-next (assertion_with (change_of c.args.copier.now)) c.loop-stretch.parts.assertions c.push-in-Some-split_first.new.self.assertions c.in-Some-split_first.item.now
          (pending_items c.args.self.now (map (λ items. items.now) c.loop-stretch.pending.items))
          (pending_items c.args.self.now (map (λ items. items.now) c.stack_up.new.pending.items)) visited c.in_ok-push-2.ensures.assertions
          ∙ c.loop-stretch.invariant.1,
    )

pub loop-stretch-smaller : goal.loop-stretch-smaller
loop-stretch-smaller c =
    ended-fewer (λ (items : Bor (List RawItem)). items.now) c.args.self.now c.pop.new.self.items c.loop-stretch.pending.items c.in-Some.stretch c.in-Some.ensures.items

pub loop-stretch-preserved : goal.loop-stretch-preserved
loop-stretch-preserved c =
    let ended = ended-items (λ (items : Bor (List RawItem)). items.now) c.args.self.now c.pop.new.self.items c.loop-stretch.pending.items c.in-Some.stretch c.in-Some.ensures.items c.in_default-split_first.ensures.cases in (
      ap (λ l. c.loop-stretch.parts.lets ++ map (let_with (change_of c.args.copier.now)) (flat_map let_in l)) (sym ended) ∙ c.loop-stretch.invariant.0,
      ap (λ l. c.loop-stretch.parts.assertions ++ map (assertion_with (change_of c.args.copier.now)) (flat_map assertion_in l)) (sym ended) ∙ c.loop-stretch.invariant.1,
    )
