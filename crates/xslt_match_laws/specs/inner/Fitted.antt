-- What the proof of the law carries along: predicates that are well typed and whose slots fit.
use Rattle.std.specs.Prelude.{true, List, [], ◌∷◌}
use Rattle.xp_typed_tree.specs.TypedTree.{TypedTree, TypedTrees, TypedPatternStepTree, TypedPathTree, no_typed, typed}
use Rattle.xp_typed_tree.specs.WellTyped.{WellTyped}
use Rattle.xp_typed_tree.specs.Slots.{slots_in}
use Rattle.xp_meaning.specs.Evaluation.{Lets}
use Rattle.xp_meaning_laws.specs.Slots.{SlotsFit}

abbrev pub Fitted : Lets → TypedTree → Type 0
Fitted L t = WellTyped true t × SlotsFit L (slots_in t)

abbrev pub AllFitted : Lets → TypedTrees → Type 0
AllFitted L no_typed = Unit {0}
AllFitted L (typed t ts) = Fitted L t × AllFitted L ts

abbrev pub StepsFitted : Lets → List TypedPatternStepTree → Type 0
StepsFitted L [] = Unit {0}
StepsFitted L (s ∷ ss) = AllFitted L s.predicates × StepsFitted L ss

abbrev pub PathsFitted : Lets → List TypedPathTree → Type 0
PathsFitted L [] = Unit {0}
PathsFitted L (p ∷ ps) = StepsFitted L p.steps × PathsFitted L ps
