use Rattle.std.proofs.Common.{drop}
use Rattle.doc_tree.specs.Scope.{scope_at}
use Rattle.name_scopes.proofs.PieceTests.{Tested}
use Rattle.name_scopes.proofs.refuse.refuse_tags.Given as goal

-- no tag so far lacks a prefix, and it is known whether one has two attributes of one name
abbrev pub invariant-loop-event : goal.invariant-loop-event
invariant-loop-event l = Tested (scope_at l.tree.nodes l.fn.parent) l.events (drop l.event-index l.events) l.doubled l.tags
