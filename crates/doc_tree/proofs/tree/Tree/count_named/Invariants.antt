use Rattle.std.proofs.Common.{◌-◌, ◌≡◌, ◌≤◌, [], drop, length, filter}
use Rattle.doc_table.specs.Table.{numbered}
use Rattle.doc_tree.specs.Alike.{is_element_called}
use Rattle.doc_tree.proofs.tree.Tree.count_named.Given as goal

-- none of the kids that were looked at is such an element
abbrev pub invariant-loop-left : goal.invariant-loop-left
invariant-loop-left l = (l.left ≤ length l.kids)
    × (filter (is_element_called l.self.nodes (numbered l.self.names l.name).uri (numbered l.self.names l.name).local) (drop l.left l.kids) ≡ [])

abbrev pub decreases-loop-left : goal.decreases-loop-left
decreases-loop-left l = l.left - l.least
