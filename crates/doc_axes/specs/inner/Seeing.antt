-- What is seen of nodes that pass a test, one after another.
use Rattle.std.specs.Prelude.{◌≡◌, ◌<◌, ◌-◌, ℕ, Bool, true, List, length, slice_index_or}
use Rattle.doc_axes.specs.Places.{node_at}
use Rattle.doc_axes.specs.declared.placed.Seen.{Seen}

-- how many they are, and the one at the place
pub record Tells (place : ℕ) (found : List ℕ) (seen : Seen) : Type 0 where
  pub sought : seen.place ≡ place
  pub count : seen.count ≡ length found
  pub node : seen.node ≡ node_at place found

-- the last of the first so many nodes passes
abbrev pub EndsPassing : (ℕ → Bool) → ℕ → List ℕ → Type 0
EndsPassing p next nodes = (0 < next) × ((n : ℕ) → slice_index_or nodes (next - 1) n ≡ n → p n ≡ true)
