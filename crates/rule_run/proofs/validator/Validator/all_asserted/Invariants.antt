use Rattle.std.proofs.Common.{drop}
use Rattle.std.specs.Option.{option_to_list}
use Rattle.xp_outcome.specs.Evaluation.{done}
use Rattle.xp_outcome.specs.Running.{Onto}
use Rattle.xp_outcome.proofs.Outcomes.{gathering}
use Rattle.sch_units.specs.Firing.{all_asserted, asserted}
use Rattle.rule_run.proofs.validator.Validator.all_asserted.Given as goal

abbrev pub invariant-loop-i : goal.invariant-loop-i
invariant-loop-i g l =
    Onto (all_asserted l.fn.self.caller.tree.now.nodes l.lets l.fn.self.node l.fn.subject l.assertions) l.initial.reads l.initial.steps
    (gathering (λ j a. asserted l.fn.self.caller.tree.now.nodes l.lets l.fn.self.node l.fn.subject j a) (λ _ _ finding. option_to_list finding) done
    l.findings l.i (drop l.i l.assertions)) l.reads l.steps
