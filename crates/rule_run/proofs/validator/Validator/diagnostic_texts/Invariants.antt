use Rattle.std.proofs.Common.{drop, [], ◌∷◌}
use Rattle.xp_outcome.specs.Evaluation.{done}
use Rattle.xp_outcome.specs.Running.{Onto}
use Rattle.xp_outcome.proofs.Outcomes.{gathering}
use Rattle.sch_units.specs.Messages.{diagnostic_texts, message}
use Rattle.rule_run.proofs.validator.Validator.diagnostic_texts.Given as goal

abbrev pub invariant-loop-diagnostic : goal.invariant-loop-diagnostic
invariant-loop-diagnostic g l =
    Onto (diagnostic_texts l.fn.self.caller.tree.now.nodes l.lets l.fn.self.node l.diagnostics) l.initial.reads l.initial.steps
    (gathering (λ _ d. message l.fn.self.caller.tree.now.nodes l.lets l.fn.self.node d.message) (λ _ _ text. text ∷ []) done
    l.texts l.diagnostic-index (drop l.diagnostic-index l.diagnostics)) l.reads l.steps
