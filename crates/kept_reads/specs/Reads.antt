-- What is kept of what units read, place by place, and which rows may have a stale unit.
use Rattle.std.specs.FinSet.{contains, from_list}
use Rattle.std.specs.Prelude.{ℕ, ◌/◌, Bool, true, false, List, Option, None, Some, count_by, is_some, slice_index_or}
use Rattle.xp_outcome.specs.Evaluation.{Read, cell, names_along, variable}
use Rattle.xp_outcome.specs.Recorded.{LetSet, Recorded}

-- what stands at a place of a list, nothing past its end
abbrev pub reads_at : List (Option Recorded) → ℕ → Option Recorded
reads_at entries place = slice_index_or entries place None

-- whether a unit has read a cell, or the names along an axis from a node, as far as is kept
abbrev pub has_kept : Option Recorded → Read → Bool
has_kept None r = false
has_kept (Some held) (cell c) = contains held.cells c
has_kept (Some held) (names_along axis n) = contains held.names (record { axis = axis; node = n })
has_kept (Some held) (variable slot) = false

-- of how many units something is kept
abbrev pub kept_count : List (Option Recorded) → ℕ
kept_count entries = count_by is_some entries

-- the lets that a unit read
abbrev pub lets_kept : Option Recorded → Option LetSet
lets_kept None = None
lets_kept (Some held) = Some held.lets

-- the set of lets that slots tell of
abbrev pub lets_told : Option (List ℕ) → Option LetSet
lets_told None = None
lets_told (Some slots) = Some (from_list slots)

-- whether a unit of a row may be stale, by the flags of blocks of 64 rows each; past the last block each may
abbrev pub may_be_stale : List Bool → ℕ → Bool
may_be_stale blocks row = slice_index_or blocks (row / 64) true
