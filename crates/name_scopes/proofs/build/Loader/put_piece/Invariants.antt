use Rattle.std.proofs.Common.{drop, take}
use Rattle.doc_tree.specs.Scope.{scope_at}
use Rattle.name_scopes.proofs.PieceWhole.{PieceGoing}
use Rattle.name_scopes.proofs.build.Loader.put_piece.Given as goal

-- the events so far were put, and the others may come
abbrev pub invariant-loop-event : goal.invariant-loop-event
invariant-loop-event l = PieceGoing (scope_at l.tree.nodes l.fn.parent) l.events (take l.event-index l.events) (drop l.event-index l.events) l.self
