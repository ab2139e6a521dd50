-- What matching may read: the lets in slots that the pattern names, and cells of nodes of the tree.
use Rattle.std.specs.Prelude.{◌≡◌, ℕ, true, List}
use Rattle.std.specs.List.{AllByRecursion as Each}
use Rattle.doc_tree.specs.Table.{Table, is_live}
use Rattle.xp_typed_tree.specs.TypedTree.{TypedPathTree}
use Rattle.xp_typed_tree.specs.Slots.{slots_in_paths}
use Rattle.xp_meaning.specs.Evaluation.{Lets}
use Rattle.xp_meaning_laws.specs.KnownReads.{IsNamedRead, IsLiveRead, LetsAreLive}
use Rattle.xslt_match.specs.Matching.{matching}

-- the lets that are read are those in slots that the pattern names
abbrev pub MatchingReadsNamedLets : Type 0
MatchingReadsNamedLets = (T : Table) (L : Lets) (ps : List TypedPathTree) (n : ℕ) → Each (IsNamedRead (slots_in_paths ps)) (matching T L ps n).reads

-- where the node and those of the lets' values live, the cells that are read are of live nodes
abbrev pub MatchingReadsLiveCells : Table → Type 0
MatchingReadsLiveCells T =
    (L : Lets) (ps : List TypedPathTree) (n : ℕ) → LetsAreLive T L → is_live T n ≡ true → Each (IsLiveRead T) (matching T L ps n).reads
