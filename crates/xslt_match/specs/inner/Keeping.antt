-- Paths and steps that stand in a pattern, and what a step selects at a node, on the way to what is kept.
use Rattle.std.specs.Prelude.{◌≡◌, ℕ, ◌-◌, Bool, true, false, Result, Ok, Err, Some, List, drop, length, map, slice_get}
use Rattle.std.specs.declared.alloc.AllocError.{AllocError}
use Rattle.doc_tree.specs.Lists.{mem}
use Rattle.xp_typed_tree.specs.TypedTree.{TypedPathTree}
use Rattle.xp_typed_tree.specs.TypedView.{path_seen, pattern_step_seen}
use Rattle.xp_typed_tree.specs.WellTyped.{AllTyped, PatternStepsTyped}
use Rattle.xp_outcome.specs.Recorded.{Recorded, nothing_read}
use Rattle.xp_outcome.specs.Running.{Stop, no_memory}
use Rattle.xp_values.specs.declared.values.EvalFault.{EvalFault}
use Rattle.xslt_match.specs.declared.chains.Front.{Front}
use Rattle.xslt_match.specs.declared.chains.PlacedPath.{PlacedPath}
use Rattle.xslt_match.specs.declared.kept.Selected.{Selected}
use Rattle.xslt_match.specs.declared.testing.PlacedStep.{PlacedStep}
use Rattle.xslt_match.specs.Kept.{numbered_step, told}

-- a path pattern stands in the pattern where it is said to, and its steps are well typed
pub record IsPathIn (ps : List TypedPathTree) (at : PlacedPath) : Type 0 where
  pub there : slice_get ps at.number ≡ Some (path_seen at.path.now)
  pub typed : PatternStepsTyped (path_seen at.path.now).steps

-- the steps that are left are the last ones of such a path pattern
pub record IsFrontIn (ps : List TypedPathTree) (front : Front) : Type 0 where
  pub there : slice_get ps front.at.number ≡ Some (path_seen front.at.path.now)
  pub typed : PatternStepsTyped (map pattern_step_seen front.later.now)
  pub later : front.later.now ≡ drop (length front.at.path.now.steps.items - length front.later.now) front.at.path.now.steps.items

-- a step stands in the pattern where it is said to, and its predicates call no `current`
pub record IsPlacedIn (ps : List TypedPathTree) (at : PlacedStep) : Type 0 where
  pub there : numbered_step ps at.path at.number ≡ Some (pattern_step_seen at.step.now)
  pub typed : AllTyped true false (pattern_step_seen at.step.now).predicates

-- whether a node is among those selected, as the end of a run
abbrev pub nodes_told : Result (List ℕ) (Stop EvalFault) → ℕ → Result Bool (Stop EvalFault)
nodes_told (Ok nodes) k = Ok (mem k nodes)
nodes_told (Err e) k = Err e

abbrev pub told_of : Result Selected AllocError → ℕ → Result Bool (Stop EvalFault)
told_of (Ok selected) k = told selected.nodes k
told_of (Err _) k = Err no_memory

-- what was read for it
abbrev pub reads_of : Result Selected AllocError → Recorded
reads_of (Ok selected) = selected.reads
reads_of (Err _) = nothing_read

-- the list that a call left, where it did not stop
abbrev pub with_list : Result (Unit {0}) (Stop EvalFault) → List ℕ → Result (List ℕ) (Stop EvalFault)
with_list (Ok done) nodes = Ok nodes
with_list (Err e) nodes = Err e
