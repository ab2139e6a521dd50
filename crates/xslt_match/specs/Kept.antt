-- What is kept of the steps of a pattern with positional predicates, and what is known of its path patterns.
use Rattle.std.specs.Prelude.{◌≡◌, ℕ, Bool, Result, Ok, Err, Option, None, Some, IfSome, List, [], ◌∷◌, option_and_then, slice_get}
use Rattle.std.specs.List.{AllByRecursion as Each}
use Rattle.doc_tree.specs.Lists.{mem}
use Rattle.doc_tree.specs.Table.{Contents, Name, Table}
use Rattle.xp_typed_tree.specs.TypedTree.{TypedPatternStepTree, TypedPathTree}
use Rattle.xp_outcome.specs.Recorded.{nothing_read}
use Rattle.xp_outcome.specs.Running.{Stop, faulted, Ran}
use Rattle.xp_values.specs.declared.values.EvalFault.{EvalFault}
use Rattle.xp_meaning.specs.Evaluation.{Lets}
use Rattle.xslt_match.specs.declared.kept.StepKey.{StepKey}
use Rattle.xslt_match.specs.declared.kept.KeptStep.{KeptStep}
use Rattle.xslt_match.specs.declared.kept.KeptSteps.{KeptSteps}
use Rattle.xslt_match.specs.declared.kept.KnownPath.{KnownPath}
use Rattle.xslt_match.specs.inner.Named.{all_named}
use Rattle.xslt_match.specs.KnownTests.{IsKnownTest}
use Rattle.xslt_match.specs.Matching.{is_left, step_of}

-- the step of a pattern, by the number of its path pattern and its number there
abbrev pub numbered_step : List TypedPathTree → ℕ → ℕ → Option TypedPatternStepTree
numbered_step ps path step = option_and_then (λ p. slice_get p.steps step) (slice_get ps path)

-- whether a node is among those selected, or the fault
abbrev pub told : Result (List ℕ) EvalFault → ℕ → Result Bool (Stop EvalFault)
told (Ok nodes) k = Ok (mem k nodes)
told (Err f) k = Err (faulted f)

-- what is kept of a step at a node p tells of each node whether the step leaves it there, and what is read and visited for
-- that, whichever node is matched
abbrev pub IsOutcomeAt : Table → Lets → List TypedPathTree → StepKey → KeptStep → Type 0
IsOutcomeAt T L ps key kept =
    IfSome (numbered_step ps key.path key.step) (λ s. (n k : ℕ) →
    Ran (is_left T (step_of T L s) n k (Some key.parent)) (told kept.selected.nodes k) nothing_read kept.selected.reads 0 kept.visits)

-- the step at which a path pattern ends
abbrev pub last_step : List TypedPatternStepTree → Option TypedPatternStepTree
last_step [] = None
last_step (s ∷ []) = Some s
last_step (s ∷ r ∷ ss) = last_step (r ∷ ss)

-- what is known of a path pattern is so: what the node test at which it ends says of names, and whether each of its steps looks at the
-- names of elements, and at one place
pub record IsKnown (names : List Name) (p : TypedPathTree) (known : KnownPath) : Type 0 where
  pub test : IfSome (last_step p.steps) (λ s. IsKnownTest names s.test known.test)
  pub named : known.named ≡ all_named p.steps

-- and so is what is known of each of some path patterns, by their numbers
abbrev pub AreKnown : List Name → List TypedPathTree → List KnownPath → Type 0
AreKnown names ps paths = (i : ℕ) (p : TypedPathTree) (known : KnownPath) → slice_get ps i ≡ Some p → slice_get paths i ≡ Some known → IsKnown names p known

-- what is kept of the pattern's steps is so, and so is what is known of its path patterns
pub record IsKeptFor (C : Contents) (L : Lets) (ps : List TypedPathTree) (kept : KeptSteps) : Type 0 where
  pub selected : Each (λ e. IsOutcomeAt C.nodes L ps e.0 e.1) kept.steps.entries
  pub paths : AreKnown C.names ps kept.paths.items
