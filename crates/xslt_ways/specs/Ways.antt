-- From where a step looks for its candidates, which hang from the nodes at which they are ones (XSLT 1.0, section 5.2).
use Rattle.std.specs.Prelude.{◌≡◌, ℕ, ◌==◌, Bool, true, false, ◌||◌, List, Option, None, Some, if◌then◌else◌}
use Rattle.doc_tree.specs.Lists.{mem}
use Rattle.doc_tree.specs.Table.{Table}
use Rattle.doc_tree.specs.Walks.{above}
use Rattle.xp_tree.specs.declared.pattern.Join.{Join}
use Rattle.xp_tree.specs.declared.pattern.Join.TheVariants as joins

-- a step after `//`
abbrev pub is_anywhere : Join → Bool
is_anywhere joins.Nothing = false
is_anywhere joins.Slash = false
is_anywhere joins.DoubleSlash = true

-- whether a step from m looks for candidates at p: at m itself, or after `//` at m and below it
abbrev pub looks_at : Table → Join → ℕ → ℕ → Bool
looks_at T join m p = if is_anywhere join then mem m (above T p) else m == p

-- the same of a node that may be missing, for a step after `//` or not
abbrev pub looks_there : Table → Bool → ℕ → Option ℕ → Bool
looks_there T anywhere m None = false
looks_there T anywhere m (Some p) = if anywhere then mem m (above T p) else m == p

-- of each two nodes one is above the other, or they are the same
abbrev pub OnOneWay : Table → List ℕ → Type 0
OnOneWay T nodes = (a b : ℕ) → mem a nodes ≡ true → mem b nodes ≡ true → (mem a (above T b) || mem b (above T a)) ≡ true
