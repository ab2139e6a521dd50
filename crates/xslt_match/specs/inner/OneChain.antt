-- The chain of a path pattern of which each step but the first leads from a parent: there is one at most, and its nodes are
-- the node and its ancestors, one above another (XSLT 1.0, section 5.2).
use Rattle.std.specs.Prelude.{ℕ, Bool, true, false, not, ◌&&◌, List, [], ◌∷◌, Option, None, Some, option_and_then}
use Rattle.std.specs.List.{list_any}
use Rattle.doc_tree.specs.Table.{Table}
use Rattle.xp_typed_tree.specs.TypedTree.{TypedPatternStepTree}
use Rattle.xp_outcome.specs.Evaluation.{Evaluation, done, bind}
use Rattle.xp_values.specs.declared.values.EvalFault.{EvalFault}
use Rattle.xp_meaning.specs.Evaluation.{Lets}
use Rattle.xslt_match.specs.inner.Leading.{holder}
use Rattle.xslt_ways.specs.Ways.{is_anywhere}
use Rattle.xslt_match.specs.Matching.{leads, survives}
use Rattle.xslt_match.specs.Names.{ancestor_over}

-- whether no step stands after `//`
abbrev pub all_from_parents : List TypedPatternStepTree → Bool
all_from_parents [] = true
all_from_parents (s ∷ ss) = not (is_anywhere s.join) && all_from_parents ss

-- the node from which such steps lead on to n
abbrev pub origin : Table → List TypedPatternStepTree → ℕ → Option ℕ
origin T [] n = Some n
origin T (s ∷ ss) n = option_and_then (holder T s) (origin T ss n)

-- whether a step leads from some nodes to a node that may be missing
abbrev pub leads_there : Table → TypedPatternStepTree → List ℕ → Option ℕ → Bool
leads_there T s ms None = false
leads_there T s ms (Some k) = list_any (λ m. leads T s m k) ms

-- whether a node that may be missing survives a step's test
abbrev pub survives_there : Table → Lets → TypedPatternStepTree → ℕ → Option ℕ → Evaluation EvalFault Bool
survives_there T L s n None = done false
survives_there T L s n (Some k) = survives T L s n k

-- the tests of the chain's nodes from the left, of which all are done, after others that were passed or not
abbrev pub tests : Table → Lets → ℕ → List TypedPatternStepTree → Bool → Evaluation EvalFault Bool
tests T L n [] passed = done passed
tests T L n (s ∷ ss) passed = bind (survives_there T L s n (ancestor_over T ss n)) (λ stays. tests T L n ss (passed && stays))
