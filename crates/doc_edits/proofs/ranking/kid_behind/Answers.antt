-- The kids part where the ranks pass this one.
use Rattle.std.proofs.Common.{◌≡◌, ◌<◌, ◌++◌, ℕ, Bool, true, false, leb, le-leb, leb-true, refl, ap, ◌∙◌, arith, rules, get_or, None}
use Rattle.std.specs.List.Sorted.{IsPartitionPoint}
use Rattle.std.specs.Prelude.{slice_get}
use Rattle.std.proofs.lemmas.List.Sorted.{IsPartitionPoint-from_clause}
use Rattle.doc_table.specs.Lists.{mem}
use Rattle.doc_table.specs.inner.Kept.{rank_at}
use Rattle.doc_edits.proofs.SpreadLemmas.{at-point, partitioned}
use Rattle.doc_edits.proofs.ranking.kid_behind.Goals as goal

beyond : (a b : ℕ) → b < a → leb a b ≡ false
beyond a b h = by (leb a b) refl
  where
    by : (r : Bool) → leb a b ≡ r → r ≡ false
    by true e = absurd (omega (arith, leb-true a b e, h))
    by false e = refl

pub returns : goal.returns
returns c = λ front back is low high.
    let test : ℕ → Bool = λ m. leb (rank_at (get_or c.args.bare.now.nodes m None)) c.args.rank in
    let passes : (m : ℕ) → mem m front ≡ true → test m ≡ true = λ m h. le-leb _ _ (low m h) in
    let fails : (m : ℕ) → mem m back ≡ true → test m ≡ false = λ m h. beyond _ _ (high m h) in
    let kids : c.kids-kids.result.now ≡ front ++ back = c.kids-kids.ensures ∙ is in
    let point : IsPartitionPoint (λ y. test y ≡ true) (λ y. test y ≡ false) (front ++ back) c.partition_point-place.result =
    rw kids at
    (IsPartitionPoint-from_clause test c.kids-kids.result.now c.partition_point-place.result c.partition_point-place.ensures.partitioned
    (rw kids (partitioned test front back passes fails)) (λ a r q k. search rules)) in
    c.node_in.ensures
    ∙ (ap (λ l. slice_get l c.partition_point-place.result) kids
    ∙ at-point test front back c.partition_point-place.result passes fails (λ k h. point.0 k 0 (omega arith) h) (λ k h g. point.1 k 0 h g))
