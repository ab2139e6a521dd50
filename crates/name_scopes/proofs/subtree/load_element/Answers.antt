-- The tree is that which the loader has built.
use Rattle.name_scopes.proofs.subtree.load_element.Goals as goal

pub returns-in-Ok : goal.returns-in-Ok
returns-in-Ok c = rw c.into_tree-piece.ensures (rw c.in-Ok.is at c.put_piece-put.ensures)
