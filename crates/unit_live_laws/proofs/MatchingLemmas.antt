-- Whether a live node matches a pattern is told by cells of live nodes.
use Rattle.std.proofs.Common.{◌≡◌, ℕ, true, List}
use Rattle.doc_tree.specs.Laws.{HasWaysUp, Ordered}
use Rattle.doc_tree.specs.Table.{Table, is_live}
use Rattle.xp_typed_tree.specs.Slots.{slots_in, slots_in_paths}
use Rattle.xp_typed_tree.specs.TypedTree.{TypedPathTree, TypedTree}
use Rattle.xp_outcome.specs.Evaluation.{variable}
use Rattle.xp_meaning.specs.Evaluation.{Lets, meaning}
use Rattle.xp_meaning_laws.specs.KnownReads.{IsLiveRead, LetsAreLive}
use Rattle.xp_meaning_laws.proofs.EachLemmas.{each-all}
use Rattle.xp_meaning_laws.proofs.Knowing.{good, live_closed}
use Rattle.xp_meaning_laws.proofs.Parts.{Any, Good}
use Rattle.xp_meaning_laws.proofs.Sound.{Sound}
use Rattle.xslt_match.specs.Matching.{matching}
use Rattle.xslt_match_laws.proofs.Knowing.{matching_sound}

-- a node lives
abbrev pub Lives : Table → ℕ → Type 0
Lives T n = is_live T n ≡ true

module _ (T : Table) (ord : Ordered T) (up : HasWaysUp T) (L : Lets) (lets : LetsAreLive T L) where
  pub value-good : (t : TypedTree) → Good T (Lives T) (IsLiveRead T) (live_closed T ord up) (meaning T L t)
  value-good t = good T (Lives T) (IsLiveRead T) (live_closed T ord up) L lets t (each-all (λ s. IsLiveRead T (variable s.0)) (λ s. tt) (slots_in t))

  pub matching-sound : (ps : List TypedPathTree) (n : ℕ) → Lives T n → Sound (IsLiveRead T) Any (matching T L ps n)
  matching-sound ps n here =
      matching_sound T (Lives T) (IsLiveRead T) (live_closed T ord up) L lets n here ps
      (each-all (λ s. IsLiveRead T (variable s.0)) (λ s. tt) (slots_in_paths ps))
