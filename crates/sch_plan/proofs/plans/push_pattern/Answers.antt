use Rattle.std.proofs.Common.{◌∷◌, [], ◌++◌, sym, ap, ◌∙◌, append_assoc}
use Rattle.sch_compiled.specs.Patterns.{with_last_rule}
use Rattle.sch_plan.proofs.Loops.{one-fewer}
use Rattle.sch_plan.proofs.PlanLemmas.{with-last}
use Rattle.sch_plan.proofs.plans.push_pattern.Goals as goal

pub loop-rule-preserved : goal.loop-rule-preserved
loop-rule-preserved c =
    let i = c.loop-rule.invariant.0 in (
      (
        i.0 ++ c.in-Some.rule ∷ [],
        append_assoc i.0 (c.in-Some.rule ∷ []) _ ∙ ap (λ l. i.0 ++ l) (sym c.in-Some.ensures.steps.0) ∙ i.1,
        c.in_ok-push_rule.ensures.pushed ∙ ap (λ l. with_last_rule l c.in-Some.rule) i.2 ∙ with-last _ _ i.0 c.in-Some.rule,
      ),
      one-fewer _ _ _ _ _ c.in-Some.ensures.steps.0 c.in-Some.ensures.steps.1 c.loop-rule.invariant.1,
    )
