-- The commands of those so far were put.
use Rattle.std.proofs.Common.{◌≡◌, ◌++◌, map, take}
use Rattle.edit_paths.specs.Entries.{attribute_goes}
use Rattle.undo_entries.proofs.making.push_all_going.Given as goal

abbrev pub invariant-loop-a : goal.invariant-loop-a
invariant-loop-a l = l.commands ≡ l.initial.commands ++ map (attribute_goes l.path l.tree.nodes) (take l.a-index l.nodes)
