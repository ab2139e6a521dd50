-- The nodes of events are those of their tree.
use Rattle.std.specs.Prelude.{◌≡◌, suc, List, length}
use Rattle.pyx_core.specs.declared.event.Event.{Event}
use Rattle.doc_tree.specs.Table.{Table}
use Rattle.doc_tree.specs.Walks.{order}
use Rattle.name_scopes.specs.ScopedTree.{Scoped}
use Rattle.sch_flat.specs.FlatSize.{nodes_of}

-- the tree of events has as many nodes as they bring, and the root
abbrev pub NodesAreCounted : Type 0
NodesAreCounted = (events : List Event) (T : Table) → Scoped events T → length (order T) ≡ suc (nodes_of events)
