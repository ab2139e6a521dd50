-- One place more is counted.
use Rattle.std.proofs.Common.{◌∙◌, ℕ, Bool, is_none, sym, arith}
use Rattle.kept_reads.specs.Reads.{reads_at}
use Rattle.kept_reads.proofs.CountingLemmas.{count_none, count_one}
use Rattle.kept_reads.proofs.kept_reads.KeptReads.stale_places.Goals as goal
use Rattle.kept_reads.proofs.kept_reads.KeptReads.stale_places.Goals.{then-is_stale, else-is_stale}

pub loop-place-preserved : goal.loop-place-preserved
loop-place-preserved c =
    let is_stale : ℕ → Bool = λ place. is_none (reads_at c.args.self.now.entries place) in
    elim c.if-is_stale.branch [
      | then-is_stale w ↦ record {
        counted = count_one is_stale c.loop-place.place c.loop-place.stale _ (sym c.is_stale.ensures ∙ w.if-is_stale.true)
            c.loop-place.invariant.counted w.stale-is;
        at_most = omega arith;
      }
      | else-is_stale w ↦ record {
        counted = count_none is_stale c.loop-place.place c.loop-place.stale _ (sym c.is_stale.ensures ∙ w.if-is_stale.false)
            c.loop-place.invariant.counted w.stale-is;
        at_most = omega arith;
      }
    ]
