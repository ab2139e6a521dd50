-- Places one after another, where units read lets that have another outcome.
use Rattle.std.specs.Prelude.{◌≡◌, ◌≢◌, ℕ, ◌/◌, ◌<◌, ◌≤◌, Bool, true, false, is_none, List, length}
use Rattle.kept_reads.specs.declared.kept_reads.KeptReads.{KeptReads}
use Rattle.kept_reads.specs.Forgetting.{unless_flagged}
use Rattle.kept_reads.specs.Reads.{may_be_stale, reads_at}

-- what becomes of the flags of blocks and of the readers where a unit may be forgotten
pub record Fades (old new : KeptReads) : Type 0 where
  pub places : length new.entries ≡ length old.entries
  pub blocks : length new.stale_blocks.items ≡ length old.stale_blocks.items
  pub still : (row : ℕ) → may_be_stale old.stale_blocks.items row ≡ true → may_be_stale new.stale_blocks.items row ≡ true

-- the unit at a place is stale where it read a let that has another outcome
pub record ForgetsIf (flags : List Bool) (place width : ℕ) (old new : KeptReads) : Type 0 where
  pub fades : Fades old new
  pub here : reads_at new.entries place ≡ unless_flagged flags (reads_at old.entries place)
  pub others : (at : ℕ) → at ≢ place → reads_at new.entries at ≡ reads_at old.entries at
  pub clean : may_be_stale new.stale_blocks.items (place / width) ≡ false → is_none (reads_at old.entries place) ≡ false →
      is_none (reads_at new.entries place) ≡ false

-- those at the places below one are
pub record ForgetsBelow (flags : List Bool) (place width : ℕ) (old new : KeptReads) : Type 0 where
  pub fades : Fades old new
  pub below : (at : ℕ) → at < place → reads_at new.entries at ≡ unless_flagged flags (reads_at old.entries at)
  pub past : (at : ℕ) → place ≤ at → reads_at new.entries at ≡ reads_at old.entries at
  pub clean : (at : ℕ) → may_be_stale new.stale_blocks.items (at / width) ≡ false → is_none (reads_at old.entries at) ≡ false →
      is_none (reads_at new.entries at) ≡ false
