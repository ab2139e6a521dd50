-- One more, up to all.
use Rattle.std.proofs.Common.{sym}
use Rattle.sch_references.specs.References.{pattern_places}
use Rattle.sch_references.specs.inner.KnownIds.{known_by}
use Rattle.sch_references.proofs.OntoLemmas.{earlier-none, onto-all, onto-next}
use Rattle.sch_references.proofs.ids.Ids.check_patterns.Goals as goal

pub loop-pattern-init : goal.loop-pattern-init
loop-pattern-init c = sym (earlier-none c.args.first.now)

pub loop-pattern-preserved : goal.loop-pattern-preserved
loop-pattern-preserved c =
    onto-next (pattern_places (known_by c.args.self.now) c.args.self.now.rules) c.args.patterns.now c.loop-pattern.pattern-index c.pattern-item.result c.args.first.now c.loop-pattern.first c.check_pattern.new.first
    c.pattern-item.is c.loop-pattern-test.true c.loop-pattern.invariant c.in_ok-check_pattern.ensures

pub returns : goal.returns
returns c =
    onto-all (pattern_places (known_by c.args.self.now) c.args.self.now.rules) c.args.patterns.now c.loop-pattern.pattern-index c.args.first.now c.loop-pattern.first c.loop-pattern-test.false c.loop-pattern.auto.pattern-index-end c.loop-pattern.invariant
