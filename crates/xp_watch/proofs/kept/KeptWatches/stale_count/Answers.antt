-- One watch more is counted.
use Rattle.std.proofs.Common.{◌∙◌, ℕ, Bool, sym, arith}
use Rattle.kept_reads.proofs.CountingLemmas.{count_none, count_one}
use Rattle.xp_watch.specs.Kept.{is_stale}
use Rattle.xp_watch.specs.inner.Held.{held_by}
use Rattle.xp_watch.proofs.kept.KeptWatches.stale_count.Goals as goal
use Rattle.xp_watch.proofs.kept.KeptWatches.stale_count.Goals.{then-is_stale, else-is_stale}

pub loop-k-preserved : goal.loop-k-preserved
loop-k-preserved c =
    let stale : ℕ → Bool = is_stale (held_by c.args.self.now) in
    elim c.if-is_stale.branch [
      | then-is_stale w ↦ record {
        counted = count_one stale c.loop-k.k c.loop-k.stale _ (sym c.is_stale.ensures ∙ w.if-is_stale.true) c.loop-k.invariant.counted w.stale-is;
        at_most = omega arith;
      }
      | else-is_stale w ↦ record {
        counted = count_none stale c.loop-k.k c.loop-k.stale _ (sym c.is_stale.ensures ∙ w.if-is_stale.false) c.loop-k.invariant.counted w.stale-is;
        at_most = omega arith;
      }
    ]
