-- The node at a place among nodes, counted from 1.
use Rattle.std.specs.Prelude.{◌≡◌, ℕ, zero, suc, List, Option, None, length, slice_get}
use Rattle.doc_axes.specs.declared.placed.Placed.{Placed}

abbrev pub node_at : ℕ → List ℕ → Option ℕ
node_at zero ns = None
node_at (suc k) ns = slice_get ns k

-- how many nodes an axis has, how many of them pass a test, and which of these stands at a place
pub record IsPlaced (place : ℕ) (nodes found : List ℕ) (placed : Placed) : Type 0 where
  pub on_axis : placed.on_axis ≡ length nodes
  pub passing : placed.passing ≡ length found
  pub node : placed.node ≡ node_at place found
