-- What holds of a pattern holds of each of its predicates.
use Rattle.std.proofs.Common.{ℕ, true, false, List, [], ◌∷◌, ◌++◌}
use Rattle.xp_typed_tree.specs.declared.value_type.ValueType.{ValueType}
use Rattle.xp_typed_tree.specs.TypedTree.{TypedTrees, TypedPatternStepTree, TypedPathTree, no_typed, typed}
use Rattle.xp_typed_tree.specs.WellTyped.{AllTyped, PatternStepsTyped, PathsTyped}
use Rattle.xp_typed_tree.specs.Slots.{slots_in, slots_in_all, slots_in_pattern_steps, slots_in_paths}
use Rattle.xp_outcome.specs.Slots.{in_slot}
use Rattle.xp_meaning.specs.Evaluation.{Lets}
use Rattle.xp_meaning_laws.specs.Slots.{IsSetAs, SlotsFit}
use Rattle.xp_meaning_laws.proofs.EachLemmas.{each-front, each-back}
use Rattle.xslt_match_laws.specs.inner.Fitted.{AllFitted, StepsFitted, PathsFitted}

module _ (L : Lets) where
  front : (xs ys : List (ℕ × ValueType)) → SlotsFit L (xs ++ ys) → SlotsFit L xs
  front xs ys h = each-front (λ s. IsSetAs s.1 (in_slot L s.0)) xs ys h

  back : (xs ys : List (ℕ × ValueType)) → SlotsFit L (xs ++ ys) → SlotsFit L ys
  back xs ys h = each-back (λ s. IsSetAs s.1 (in_slot L s.0)) xs ys h

  all_fitted : (ts : TypedTrees) → AllTyped true false ts → SlotsFit L (slots_in_all ts) → AllFitted L ts
  all_fitted no_typed sound fits = tt
  all_fitted (typed t ts) sound fits =
      ((sound.0, front (slots_in t) (slots_in_all ts) fits), all_fitted ts sound.2 (back (slots_in t) (slots_in_all ts) fits))

  steps_fitted : (ss : List TypedPatternStepTree) → PatternStepsTyped ss → SlotsFit L (slots_in_pattern_steps ss) → StepsFitted L ss
  steps_fitted [] sound fits = tt
  steps_fitted (s ∷ ss) sound fits =
      let own : List (ℕ × ValueType) = slots_in_all s.predicates in
      let rest : List (ℕ × ValueType) = slots_in_pattern_steps ss in
      (all_fitted s.predicates sound.1 (front own rest fits), steps_fitted ss sound.2 (back own rest fits))

  pub paths_fitted : (ps : List TypedPathTree) → PathsTyped ps → SlotsFit L (slots_in_paths ps) → PathsFitted L ps
  paths_fitted [] sound fits = tt
  paths_fitted (p ∷ ps) sound fits =
      let own : List (ℕ × ValueType) = slots_in_pattern_steps p.steps in
      let rest : List (ℕ × ValueType) = slots_in_paths ps in
      (steps_fitted p.steps sound.0 (front own rest fits), paths_fitted ps sound.1 (back own rest fits))
