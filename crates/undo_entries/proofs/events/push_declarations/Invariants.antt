-- The declarations so far were told.
use Rattle.std.proofs.Common.{◌≡◌, ◌++◌, map, take}
use Rattle.doc_tree.specs.Table.{decls_of}
use Rattle.subtree_events.specs.Events.{declaring_attr}
use Rattle.undo_entries.proofs.events.push_declarations.Given as goal

abbrev pub invariant-loop-i : goal.invariant-loop-i
invariant-loop-i l = l.attrs ≡ l.initial.attrs ++ map declaring_attr (take l.i (decls_of l.tree.nodes l.n))
