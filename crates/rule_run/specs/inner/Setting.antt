-- The lets of a rule, set one after another.
use Rattle.std.specs.Prelude.{ℕ, List, Option, Result, Ok, Err}
use Rattle.doc_tree.specs.Table.{Table}
use Rattle.xp_typed_tree.specs.TypedTree.{TypedTree}
use Rattle.xp_outcome.specs.Recorded.{Recorded}
use Rattle.xp_outcome.specs.Running.{Ran, Onto}
use Rattle.xp_values.specs.declared.values.EvalError.{EvalError}
use Rattle.xp_meaning.specs.Evaluation.{Lets}
use Rattle.xp_meaning.specs.Results.{stop_of}
use Rattle.sch_compiled.specs.declared.parts.PlanLet.{PlanLet}
use Rattle.sch_compiled.specs.declared.parts.PlanAssert.{PlanAssert}
use Rattle.sch_units.specs.Firing.{all_asserted, fired_by}

-- where all lets were set, whoever then evaluates a rule's assertions has evaluated the rule with these lets; where this
-- stopped, so did the rule
abbrev pub SetsLets : Table → ℕ → ℕ → List PlanLet → Lets → Lets → Result (Unit {0}) EvalError → Recorded → Recorded → ℕ → ℕ → Type 0
SetsLets T n slot items L M (Ok done) held now before after =
    (subject : Option TypedTree) (assertions : List PlanAssert) → Onto (fired_by T L n slot subject items assertions) held before (all_asserted T M n subject assertions) now after
SetsLets T n slot items L M (Err e) held now before after =
    (subject : Option TypedTree) (assertions : List PlanAssert) → Ran (fired_by T L n slot subject items assertions) (Err (stop_of e)) held now before after
