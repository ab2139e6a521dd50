-- The rule is entered.
use Rattle.std.proofs.Common.{refl, sym}
use Rattle.sch_references.proofs.SortLemmas.{entered-kept, entered-new, idle-enter}
use Rattle.sch_references.proofs.search.Search.visit.Goals as goal

pub loop-frame-init : goal.loop-frame-init
loop-frame-init c = record {
  busy = idle-enter c.args.rules.now c.args.self.now (record { entered = c.add.new.self; order = c.args.self.now.order; below = c.args.self.now.below })
      (record { name = c.args.name; rule = c.rule-rule.result; rest = c.as_slice.result }) c.in-Some.place c.requires (sym c.in-Some.ensures.found) c.in-Some.ensures.place
      c.rule-rule.ensures c.as_slice.ensures refl c.in_ok-add.ensures refl;
  visited = entered-new c.args.self.now.entered c.add.new.self c.rule-rule.result.now c.args.name.now c.in_ok-add.ensures (c.in-Some.ensures.place.id c.rule-rule.result.now c.rule-rule.ensures);
  kept = entered-kept c.args.self.now.entered c.add.new.self c.rule-rule.result.now c.in_ok-add.ensures;
}
