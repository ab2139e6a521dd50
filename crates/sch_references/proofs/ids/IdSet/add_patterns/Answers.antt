-- One more, up to all.
use Rattle.std.proofs.Common.{sym}
use Rattle.sch_references.specs.References.{concrete_id, is_among}
use Rattle.sch_references.proofs.IdLemmas.{among-all, among-next, with-nothing}
use Rattle.sch_references.proofs.ids.IdSet.add_patterns.Goals as goal

pub loop-pattern-init : goal.loop-pattern-init
loop-pattern-init c = sym (with-nothing (is_among c.args.self.now))

pub loop-pattern-preserved : goal.loop-pattern-preserved
loop-pattern-preserved c =
    among-next (is_among c.args.self.now) concrete_id c.args.patterns.now c.loop-pattern.pattern-index c.pattern-item.result c.loop-pattern.self c.add_pattern.new.self c.pattern-item.is c.loop-pattern-test.true
    c.loop-pattern.invariant c.in_ok-add_pattern.ensures

pub returns : goal.returns
returns c = among-all (is_among c.args.self.now) concrete_id c.args.patterns.now c.loop-pattern.pattern-index c.loop-pattern.self c.loop-pattern-test.false c.loop-pattern.auto.pattern-index-end c.loop-pattern.invariant
