-- Which lets units read, by how it is held.
use Rattle.std.specs.Prelude.{ℕ, List, [], Option, None, Some, slice_index_or}
use Rattle.kept_reads.specs.declared.lets_read.LetsRead.{LetsRead}
use Rattle.kept_reads.specs.declared.lets_read.LetsRead.TheVariants.{Stale, Nothing, Slots}

-- the slots of the lets that a unit read; None where it is stale
abbrev pub slots_of : LetsRead → Option (List ℕ)
slots_of Stale = None
slots_of Nothing = Some []
slots_of (Slots slots) = Some slots.value.items

-- the same of the unit at a place; past the end all are stale
abbrev pub slots_at : List LetsRead → ℕ → Option (List ℕ)
slots_at lets place = slots_of (slice_index_or lets place Stale)
