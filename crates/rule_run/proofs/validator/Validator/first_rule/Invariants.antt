use Rattle.std.proofs.Common.{◌≡◌, drop}
use Rattle.xp_outcome.specs.Running.{Onto}
use Rattle.xslt_match.specs.Names.{HoldsNames}
use Rattle.sch_units.specs.Firing.{first_rule}
use Rattle.rule_run.specs.KeptMatches.{AreKept}
use Rattle.rule_run.proofs.validator.Validator.first_rule.Given as goal

abbrev pub invariant-loop-r : goal.invariant-loop-r
invariant-loop-r g l = record {
  rest : Onto (first_rule l.fn.self.caller.tree.now.nodes l.fn.self.count l.initial.lets l.fn.self.node 0 l.rules) l.initial.reads l.initial.steps
      (first_rule l.fn.self.caller.tree.now.nodes l.fn.self.count l.lets l.fn.self.node l.r (drop l.r l.rules)) l.reads l.steps;
  same : l.lets ≡ l.initial.lets;
  node : l.names.node ≡ l.fn.self.node;
  named : HoldsNames l.fn.self.caller.tree.now.nodes l.names.node l.names.levels l.reads;
  kept : AreKept l.fn.self.caller.tree.now l.lets l.rules l.kept;
}
