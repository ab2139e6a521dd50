-- What stays of what units read, once lets have another outcome.
use Rattle.std.specs.Prelude.{◌≡◌, ℕ, ◌/◌, Bool, true, false, is_none, List, length, Option, None, Some, if◌then◌else◌, slice_index_or, slice_set}
use Rattle.std.specs.FinSet.{items}
use Rattle.std.specs.List.{list_any}
use Rattle.xp_outcome.specs.Recorded.{Recorded}
use Rattle.kept_reads.specs.declared.kept_reads.KeptReads.{KeptReads}
use Rattle.kept_reads.specs.Reads.{may_be_stale, reads_at}

-- whether the let in a slot has another outcome than before; past the end none has
abbrev pub flag_at : List Bool → ℕ → Bool
flag_at flags slot = slice_index_or flags slot false

-- whether a unit has read a let that has another outcome; of a stale unit none is known
abbrev pub reads_flagged : List Bool → Option Recorded → Bool
reads_flagged flags None = false
reads_flagged flags (Some held) = list_any (flag_at flags) (items held.lets)

-- what a unit has read, where no let that it read has another outcome
abbrev pub unless_flagged : List Bool → Option Recorded → Option Recorded
unless_flagged flags None = None
unless_flagged flags (Some held) = if list_any (flag_at flags) (items held.lets) then None else Some held

-- the unit at a place is stale, and so its row may have a stale unit
pub record Forgets (place width : ℕ) (old new : KeptReads) : Type 0 where
  pub entries : new.entries ≡ slice_set old.entries place None
  pub blocks : new.stale_blocks.items ≡ slice_set old.stale_blocks.items (place / width / 64) true

-- the units that read a let that has another outcome are stale, and so their rows may have a stale unit; nothing else changes
pub record ForgetsReaders (flags : List Bool) (width : ℕ) (old new : KeptReads) : Type 0 where
  pub places : length new.entries ≡ length old.entries
  pub entries : (place : ℕ) → reads_at new.entries place ≡ unless_flagged flags (reads_at old.entries place)
  pub blocks : length new.stale_blocks.items ≡ length old.stale_blocks.items
  pub still : (row : ℕ) → may_be_stale old.stale_blocks.items row ≡ true → may_be_stale new.stale_blocks.items row ≡ true
  pub clean : (place : ℕ) → may_be_stale new.stale_blocks.items (place / width) ≡ false → is_none (reads_at old.entries place) ≡ false →
      is_none (reads_at new.entries place) ≡ false
