-- Nodes that a tree lends as a list, in the order in which an axis goes over them.
use Rattle.std.specs.Prelude.{◌≡◌, ℕ, true, List, ◌++◌, if◌then◌else◌}
use Rattle.doc_tree.specs.Table.{Table, kids_of}
use Rattle.doc_axes.specs.Axes.{backwards}
use Rattle.doc_axes.specs.declared.lent.Lent.{Lent}

abbrev pub lent_nodes : Lent → List ℕ
lent_nodes lent = if lent.from_end then backwards lent.nodes.now else lent.nodes.now

-- they are the first kids of some node, gone over from the last
abbrev pub AreFirstKids : Table → Lent → Type 0
AreFirstKids T lent = (lent.from_end ≡ true) × ((p : ℕ) × ((back : List ℕ) × (kids_of T p ≡ lent.nodes.now ++ back)))
