use Rattle.std.proofs.Common.{drop, string_bytes}
use Rattle.xp_outcome.specs.Running.{Onto}
use Rattle.sch_units.specs.Messages.{joined, message}
use Rattle.rule_run.proofs.validator.Validator.message.Given as goal

abbrev pub invariant-loop-part : goal.invariant-loop-part
invariant-loop-part g l =
    Onto (message l.fn.self.caller.tree.now.nodes l.lets l.fn.self.node l.parts) l.initial.reads l.initial.steps
    (joined l.fn.self.caller.tree.now.nodes l.lets l.fn.self.node (string_bytes l.text) (drop l.part-index l.parts)) l.reads l.steps
