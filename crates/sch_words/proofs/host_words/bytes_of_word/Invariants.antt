-- The word is longer than each room so far.
use Rattle.std.proofs.Common.{◌≡◌, ◌<◌, ◌-◌, ℕ, List, Some, length, slice_get, slice_index}
use Rattle.sch_words.proofs.host_words.bytes_of_word.Given as goal

abbrev pub invariant-loop-room : goal.invariant-loop-room
invariant-loop-room g l = (all : List (List ℕ)) → g.A.Arguments.words l.arguments ≡ Some all → 0 < l.room-index →
    (word : List ℕ) × (slice_get all l.number ≡ Some word) × (slice_index l.room-items (l.room-index - 1) < length word)
