-- The nesting follows from the laws of the table.
use Rattle.std.proofs.Common.{subst}
use Rattle.doc_table.specs.Order.{Nested}
use Rattle.doc_table.specs.inner.Parts.{table_of}
use Rattle.doc_tree.proofs.OrderLemmas.{nested}
use Rattle.doc_tree.proofs.tree.Tree.laws.Goals as goal

pub returns-clause-nested : goal.returns-clause-nested
returns-clause-nested c =
    subst (λ t. Nested t.nodes) c.self.view_is (nested (table_of c.self.inside.bare) c.laws.ensures.well_formed c.laws.ensures.ordered c.laws.ensures.ways_up)
