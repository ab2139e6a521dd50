-- What becomes of kept reads where places are made, where a unit is evaluated, and where none is stale.
use Rattle.std.specs.Prelude.{◌≡◌, ℕ, ◌/◌, ◌≤◌, length, None, Some, slice_set}
use Rattle.xp_outcome.specs.Recorded.{Recorded}
use Rattle.kept_reads.specs.declared.kept_reads.KeptReads.{KeptReads}
use Rattle.kept_reads.specs.Reads.{reads_at}

-- nothing but places of stale units was added, and at most so many
pub record Prepares (count : ℕ) (old new : KeptReads) : Type 0 where
  pub short : length old.entries ≤ count → length new.entries ≤ count
  pub same : (place : ℕ) → reads_at new.entries place ≡ reads_at old.entries place
  pub blocks : new.stale_blocks ≡ old.stale_blocks

-- what the unit at a place read is kept
pub record PutsReads (place : ℕ) (reads : Recorded) (old new : KeptReads) : Type 0 where
  pub entries : new.entries ≡ slice_set old.entries place (Some reads)
  pub blocks : new.stale_blocks ≡ old.stale_blocks

-- nothing of what the unit at a place read is kept
pub record Empties (place : ℕ) (old new : KeptReads) : Type 0 where
  pub entries : new.entries ≡ slice_set old.entries place None
  pub blocks : new.stale_blocks ≡ old.stale_blocks

-- so many rows at most are passed over as far as they make up blocks
pub record Passes (rows : ℕ) (old new : KeptReads) : Type 0 where
  pub entries : new.entries ≡ old.entries
  pub blocks : length new.stale_blocks.items ≤ rows / 64
