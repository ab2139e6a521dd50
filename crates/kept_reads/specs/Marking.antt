-- What stays of what units read, once some cells were touched, as a tree tells which cells these are.
use Rattle.std.specs.Prelude.{◌≡◌, ℕ, ◌/◌, ◌<◌, Bool, true, false, List, length, Option, None, Some}
use Rattle.doc_tree.specs.cell.Cell.{Cell}
use Rattle.doc_tree.specs.Table.{Table}
use Rattle.cover_laws.specs.Covering.{holds_touched}
use Rattle.xp_outcome.specs.Recorded.{Recorded}
use Rattle.kept_reads.specs.declared.kept_reads.KeptReads.{KeptReads}
use Rattle.kept_reads.specs.Reads.{may_be_stale, reads_at}

-- whether a cell that a unit has read was touched, or a name along an axis; of a stale unit none is known
abbrev pub reads_touched : Table → (Cell → Bool) → Option Recorded → Bool
reads_touched T touched None = false
reads_touched T touched (Some reads) = holds_touched T touched reads

-- what is kept at a place stays, or it is dropped, as a cell of it was touched, and then its row may be stale
pub data Thinned (T : Table) (touched : Cell → Bool) (width place : ℕ) (blocks : List Bool) (before after : Option Recorded) : Type 0 where
  entry_stays : after ≡ before → Thinned T touched width place blocks before after
  entry_dropped : reads_touched T touched before ≡ true → after ≡ None → (0 < width → may_be_stale blocks (place / width) ≡ true) →
      Thinned T touched width place blocks before after

-- nothing but touched reads is dropped
pub record Thins (T : Table) (touched : Cell → Bool) (width : ℕ) (old new : KeptReads) : Type 0 where
  pub places : length new.entries ≡ length old.entries
  pub entries : (place : ℕ) →
      Thinned T touched width place new.stale_blocks.items (reads_at old.entries place) (reads_at new.entries place)
  pub blocks : length new.stale_blocks.items ≡ length old.stale_blocks.items
  pub still : (row : ℕ) → may_be_stale old.stale_blocks.items row ≡ true → may_be_stale new.stale_blocks.items row ≡ true

-- all touched reads are dropped, and nothing else
pub record Marks (T : Table) (touched : Cell → Bool) (width : ℕ) (old new : KeptReads) : Type 0 where
  pub thins : Thins T touched width old new
  pub clean : (place : ℕ) → reads_touched T touched (reads_at new.entries place) ≡ false
