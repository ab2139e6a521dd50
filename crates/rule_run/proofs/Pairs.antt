-- The run of a node under a pattern, from its parts.
use Rattle.std.proofs.Common.{◌≡◌, ℕ, ◌+◌, ◌<◌, ◌^◌, List, [], length, get_or, sym, ◌∙◌, ap, subst, Result}
use Rattle.std.specs.Prelude.{slice_get}
use Rattle.std.specs.Option.{option_map_or}
use Rattle.doc_tree.specs.Table.{Table}
use Rattle.xp_outcome.specs.Recorded.{Recorded, nothing_read, without_lets_from}
use Rattle.xp_outcome.specs.Running.{Stop, Ran}
use Rattle.xp_values.specs.declared.values.EvalFault.{EvalFault}
use Rattle.xp_meaning.specs.Evaluation.{Lets}
use Rattle.xp_meaning.proofs.Exits.{ran_ticked}
use Rattle.xp_outcome.specs.Evaluation.{visit}
use Rattle.sch_compiled.specs.declared.parts.PlanPattern.{PlanPattern}
use Rattle.sch_compiled.specs.declared.parts.PlanRule.{PlanRule}
use Rattle.sch_compiled.specs.declared.plan.Plan.{Plan}
use Rattle.sch_compiled.specs.declared.findings.Outcome.{Outcome}
use Rattle.sch_compiled.specs.Plan.{rules_of}
use Rattle.sch_compiled.specs.Soundness.{IsCounted}
use Rattle.sch_units.specs.Firing.{first_rule}
use Rattle.sch_units.specs.Units.{unit_pair}
use Rattle.rule_run.specs.inner.Counted.{AreRulesCounted}
use Rattle.rule_run.proofs.CutReads.{ran_keeping}
use Rattle.rule_run.proofs.RuleLets.{item_there}

module _ (plan : Plan) (p : ℕ) where
  -- the rules of a pattern that is there, lent
  pub rules_lent : (lent : List PlanPattern) (pattern : PlanPattern) (rules : List PlanRule) → lent ≡ plan.patterns → p < length plan.patterns →
      pattern ≡ get_or lent p pattern → rules ≡ pattern.rules → rules ≡ rules_of plan p
  rules_lent lent pattern rules all active is lends =
      lends ∙ sym (ap (λ o. option_map_or (λ q. q.rules) o []) (item_there plan.patterns p pattern active (is ∙ ap (λ ps. get_or ps p pattern) all)))

  module _ (count : ℕ) (many : count ≡ length plan.lets) (rules : List PlanRule) (are : rules ≡ rules_of plan p) where
    pub rules_few : IsCounted plan → length rules < 2 ^ 32
    rules_few counted = subst (λ rs. length rs < 2 ^ 32) (sym are) (counted.rules_few p)

    pub rules_counted : IsCounted plan → AreRulesCounted count rules
    rules_counted counted r rule there = record {
      asserts_few = counted.asserts_few p r rule (ap (λ rs. slice_get rs r) (sym are) ∙ there);
      slots_few = subst (λ k. k + length rule.lets < 2 ^ 32) (sym many) (counted.slots_few p r rule (ap (λ rs. slice_get rs r) (sym are) ∙ there));
    }

    -- one step, the rules, and then the cut of what was read
    pub pair_ran : (T : Table) (L : Lets) (n : ℕ) (r : Result Outcome (Stop EvalFault)) (start mid now : Recorded) {before ticked after : ℕ} →
        start ≡ nothing_read → now ≡ without_lets_from count mid → ticked ≡ before + 1 →
        Ran (first_rule T count L n 0 rules) r start mid ticked after → Ran (unit_pair plan T L p n) r nothing_read now before after
    pair_ran T L n r start mid now {before} {ticked} {after} empty cut tick h =
        let m = λ (k : ℕ) (rs : List PlanRule). first_rule T k L n 0 rs in
        let whole : Ran (m (length plan.lets) (rules_of plan p)) r nothing_read mid ticked after =
        subst (λ held. Ran (m (length plan.lets) (rules_of plan p)) r held mid ticked after) empty
        (subst (λ k. Ran (m k (rules_of plan p)) r start mid ticked after) many
        (subst (λ rs. Ran (m count rs) r start mid ticked after) are h)) in
        subst (λ held. Ran (unit_pair plan T L p n) r nothing_read held before after) (sym (cut ∙ ap (λ k. without_lets_from k mid) many))
        (ran_keeping (length plan.lets) (visit (m (length plan.lets) (rules_of plan p))) r (ran_ticked tick whole))
