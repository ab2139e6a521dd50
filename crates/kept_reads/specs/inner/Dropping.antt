-- Reads of which no unit has any more.
use Rattle.std.specs.Prelude.{◌≡◌, ℕ, ◌⊎◌, ◌/◌, ◌<◌, Bool, true, false, Option, None, Some, slice_set}
use Rattle.std.specs.List.{list_any}
use Rattle.doc_tree.specs.cell.Cell.{Cell}
use Rattle.doc_tree.specs.cell.Cell.TheVariants.{Shape, Value, Text}
use Rattle.doc_tree.specs.Lists.{mem}
use Rattle.doc_tree.specs.Table.{Table}
use Rattle.doc_tree.specs.Walks.{ancestors}
use Rattle.xp_outcome.specs.Cells.{cells_of}
use Rattle.xp_outcome.specs.Evaluation.{Read, cell}
use Rattle.kept_reads.specs.declared.kept_reads.KeptReads.{KeptReads}
use Rattle.kept_reads.specs.Marking.{Thins}
use Rattle.kept_reads.specs.Reads.{has_kept, reads_at}

-- whether a cell was touched that a read stands for
abbrev pub is_touched : Table → (Cell → Bool) → Read → Bool
is_touched T touched r = list_any touched (cells_of T r)

-- no unit has read something, as far as is kept
abbrev pub IsFreeOf : Read → KeptReads → Type 0
IsFreeOf r reads = (place : ℕ) → has_kept (reads_at reads.entries place) r ≡ false

-- the row of a place may have a stale unit
pub record Flags (place width : ℕ) (old new : KeptReads) : Type 0 where
  pub entries : new.entries ≡ old.entries
  pub row : ℕ
  pub row_is : 0 < width → row ≡ place / width
  pub blocks : new.stale_blocks.items ≡ slice_set old.stale_blocks.items (row / 64) true

-- what units read that read some of these is dropped
pub record DropsReads (T : Table) (touched : Cell → Bool) (width : ℕ) (reads : Read → Type 0) (old new : KeptReads) : Type 0 where
  pub thins : Thins T touched width old new
  pub free : (r : Read) → reads r → IsFreeOf r new

-- where these were touched
abbrev pub DropsTouched : Table → (Cell → Bool) → ℕ → (Read → Type 0) → KeptReads → KeptReads → Type 0
DropsTouched T touched width reads old new = ((r : Read) → reads r → is_touched T touched r ≡ true) → DropsReads T touched width reads old new

-- the text of a node, and maybe what stands below it
abbrev pub IsAround : ℕ → Bool → Read → Type 0
IsAround n with_shapes r = (r ≡ cell (Text n)) ⊎ ((with_shapes ≡ true) × (r ≡ cell (Shape n)))

-- what is read of an ancestor of a node
abbrev pub IsAbove : Table → ℕ → (ℕ → Read → Type 0) → Read → Type 0
IsAbove T n of_node r = (m : ℕ) × (mem m (ancestors T n) ≡ true) × of_node m r

-- the text of an ancestor of a node, and maybe what stands below it
abbrev pub IsAroundAbove : Table → ℕ → Bool → Read → Type 0
IsAroundAbove T n with_shapes r = IsAbove T n (λ m. IsAround m with_shapes) r

-- the value of a text that says more, where there is one
abbrev pub IsLeft : Option ℕ → Read → Type 0
IsLeft None r = ⊥
IsLeft (Some text) r = r ≡ cell (Value text)
