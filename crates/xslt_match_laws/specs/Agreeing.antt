-- What matching depends on of the lets: the slots that the pattern names.
use Rattle.std.specs.Prelude.{◌≡◌, ℕ, List}
use Rattle.doc_tree.specs.Table.{Table}
use Rattle.xp_typed_tree.specs.TypedTree.{TypedPathTree}
use Rattle.xp_typed_tree.specs.Slots.{slots_in_paths}
use Rattle.xp_meaning.specs.Evaluation.{Lets}
use Rattle.xp_meaning_laws.specs.Agreeing.{SlotsAgree}
use Rattle.xslt_match.specs.Matching.{matching}

-- where two tables of lets agree on the slots that a pattern names, matching gives the same, reads the same and costs the same
abbrev pub MatchingNeedsSlotsAlone : Type 0
MatchingNeedsSlotsAlone = (T : Table) (L M : Lets) (ps : List TypedPathTree) (n : ℕ) → SlotsAgree L M (slots_in_paths ps) → matching T L ps n ≡ matching T M ps n
