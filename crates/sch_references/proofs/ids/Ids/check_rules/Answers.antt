-- One more, up to all.
use Rattle.std.proofs.Common.{sym}
use Rattle.sch_references.specs.References.{rule_places}
use Rattle.sch_references.specs.inner.KnownIds.{known_by}
use Rattle.sch_references.proofs.OntoLemmas.{earlier-none, onto-all, onto-next}
use Rattle.sch_references.proofs.ids.Ids.check_rules.Goals as goal

pub loop-rule-init : goal.loop-rule-init
loop-rule-init c = sym (earlier-none c.args.first.now)

pub loop-rule-preserved : goal.loop-rule-preserved
loop-rule-preserved c =
    onto-next (rule_places (known_by c.args.self.now) c.args.self.now.rules) c.args.rules.now c.loop-rule.rule-index c.rule-item.result c.args.first.now c.loop-rule.first c.check_rule.new.first
    c.rule-item.is c.loop-rule-test.true c.loop-rule.invariant c.in_ok-check_rule.ensures

pub returns : goal.returns
returns c =
    onto-all (rule_places (known_by c.args.self.now) c.args.self.now.rules) c.args.rules.now c.loop-rule.rule-index c.args.first.now c.loop-rule.first c.loop-rule-test.false c.loop-rule.auto.rule-index-end c.loop-rule.invariant
