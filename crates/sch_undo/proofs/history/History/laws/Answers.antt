-- By what a history keeps.
use Rattle.std.proofs.Common.{List, subst}
use Rattle.doc_tree.specs.Table.{Contents}
use Rattle.name_scopes.specs.Scoping.{InScope}
use Rattle.sch_undo.specs.Remembered.{GoesBackTo, Remembered}
use Rattle.sch_undo.proofs.history.History.laws.Goals as goal

pub returns-clause-stands : goal.returns-clause-stands
returns-clause-stands c =
    subst (λ (h : Remembered). (trees : List Contents) × GoesBackTo h trees) c.self.view_is (c.self.invariant.trees, c.self.invariant.stand)

pub returns-clause-scoped : goal.returns-clause-scoped
returns-clause-scoped c = subst (λ (h : Remembered). InScope h.session.tree.nodes) c.self.view_is c.self.invariant.scoped
