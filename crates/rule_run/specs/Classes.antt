-- Rules that refuse all nodes of a class.
use Rattle.std.specs.Prelude.{◌≡◌, ℕ, ◌+◌, ◌<◌, ◌≤◌, false, List, Option, None, Some, Ok, IfSome, length, slice_get, slice_index_or}
use Rattle.doc_tree.specs.Table.{Contents, Table}
use Rattle.xp_typed_tree.specs.TypedTree.{TypedPathTree}
use Rattle.xp_outcome.specs.Recorded.{Recorded}
use Rattle.xp_outcome.specs.Running.{Ran}
use Rattle.xp_meaning.specs.Evaluation.{Lets}
use Rattle.xslt_match.specs.declared.refusing.NodeClass.{NodeClass}
use Rattle.xslt_match.specs.Matching.{matching}
use Rattle.xslt_match.specs.Names.{HoldsNames}
use Rattle.xslt_match.specs.Refusing.{IsOfClass, Refuses}
use Rattle.sch_compiled.specs.declared.parts.PlanRule.{PlanRule}
use Rattle.rule_run.specs.declared.classes.ClassRules.{ClassRules}
use Rattle.rule_run.specs.declared.classes.RefusedRest.{RefusedRest}

-- where a number below 255 is kept of a rule, it refuses the nodes of the class, and reads the names of so many nodes upwards
abbrev pub IsEachRefused : Contents → List PlanRule → NodeClass → List ℕ → Type 0
IsEachRefused C rules class levels =
    (L : Lets) (r n : ℕ) (rule : PlanRule) → slice_get rules r ≡ Some rule → slice_index_or levels r 255 < 255 → IsOfClass C class n →
    Refuses C.nodes L rule.context (slice_index_or levels r 255) n

-- such a number is kept of each rule of the rest, of so many rules, and as many names are needed, or more
abbrev pub IsRestRefused : ℕ → List ℕ → RefusedRest → Type 0
IsRestRefused count levels rest = (r : ℕ) → rest.from ≤ r → r < count → slice_index_or levels r 255 < 255 × slice_index_or levels r 255 ≤ rest.needed

-- where the names of so many nodes upwards are held, it does not match, which is one visit and reads nothing else
abbrev pub IsPassedOver : Table → Lets → List TypedPathTree → ℕ → ℕ → Type 0
IsPassedOver T L ps levels n =
    (held : Recorded) (count : ℕ) → HoldsNames T n levels held → Ran (matching T L ps n) (Ok false) held held count (count + 1)

-- what is kept of a class is so
pub record AreRefused (C : Contents) (rules : List PlanRule) (known : ClassRules) : Type 0 where
  pub each : IsEachRefused C rules known.class known.levels
  pub rest : IsRestRefused (length rules) known.levels known.rest

-- what is kept of each class is so
abbrev pub AreKnown : Contents → List PlanRule → List (Option ClassRules) → Type 0
AreKnown C rules classes = (i : ℕ) → IfSome (slice_index_or classes i None) (AreRefused C rules)
