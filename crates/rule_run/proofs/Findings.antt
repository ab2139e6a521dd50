-- An assertion's finding by whether it has one.
use Rattle.std.proofs.Common.{◌≡◌, ℕ, Bool, sym, ◌∙◌, if◌then◌else◌}
use Rattle.std.specs.Prelude.{Option, None, Some}
use Rattle.doc_tree.specs.Table.{Table}
use Rattle.xp_typed_tree.specs.TypedTree.{TypedTree}
use Rattle.xp_outcome.specs.Evaluation.{Evaluation, bind, done}
use Rattle.xp_outcome.proofs.Outcomes.{bind_alike, bind_assoc, bind-done}
use Rattle.xp_values.specs.Conversions.{to_truth}
use Rattle.xp_values.specs.declared.values.EvalFault.{EvalFault}
use Rattle.xp_meaning.specs.Evaluation.{Lets, meaning}
use Rattle.sch_compiled.specs.declared.findings.Finding.{Finding}
use Rattle.sch_compiled.specs.declared.parts.PlanAssert.{PlanAssert}
use Rattle.sch_units.specs.Firing.{asserted, found, is_found}
use Rattle.sch_units.specs.Messages.{alone}

module _ (T : Table) (L : Lets) (n : ℕ) (subject : Option TypedTree) (i : ℕ) (a : PlanAssert) where
  -- what is found, where an assertion has a finding
  abbrev pub told_if : Bool → Evaluation EvalFault (Option Finding)
  told_if found_one = if found_one then bind (found T L n subject i a) (λ finding. done (Some finding)) else done None

  pub asserted-by : asserted T L n subject i a ≡ bind (bind (meaning T L a.test (alone n)) (λ v. done (is_found a.report (to_truth v)))) told_if
  asserted-by =
      sym (bind_assoc (meaning T L a.test (alone n)) (λ v. done (is_found a.report (to_truth v))) told_if
      ∙ bind_alike (meaning T L a.test (alone n)) _ _ (λ v. bind-done {F = EvalFault} (is_found a.report (to_truth v)) told_if))
