-- The attributes so far were told.
use Rattle.std.proofs.Common.{◌≡◌, ◌++◌, take}
use Rattle.std.specs.List.{flat_map}
use Rattle.doc_tree.specs.Table.{content_of}
use Rattle.subtree_events.specs.Events.{attr_in}
use Rattle.undo_entries.proofs.events.push_attributes.Given as goal

abbrev pub invariant-loop-a : goal.invariant-loop-a
invariant-loop-a l = l.attrs ≡ l.initial.attrs ++ flat_map (λ a. attr_in (content_of l.fn.tree.nodes a)) (take l.a-index l.nodes)
