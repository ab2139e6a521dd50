-- The entry is empty, and the flag of its row is set.
use Rattle.std.proofs.Common.{◌∙◌, ℕ, ◌/◌, true, set, ap}
use Rattle.kept_reads.proofs.kept_reads.KeptReads.forget.Goals as goal

pub returns : goal.returns
returns c = record {
  entries = c.forget.ensures;
  blocks = c.set_flag.ensures ∙ ap (λ (row : ℕ). set c.args.self.now.stale_blocks.items (row / 64) true) (c.row_of.ensures c.requires.wide);
}
