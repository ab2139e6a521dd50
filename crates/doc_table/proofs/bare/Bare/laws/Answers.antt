-- The laws follow from what a sound table is.
use Rattle.doc_table.proofs.DeclareLemmas.{has-scopes}
use Rattle.doc_table.proofs.TreeLaws.{well-formed, ordered, ways-up, walks}
use Rattle.doc_table.specs.inner.Parts.{table_of}
use Rattle.doc_table.proofs.bare.Bare.laws.Goals as goal

pub returns-clause-well_formed : goal.returns-clause-well_formed
returns-clause-well_formed c = well-formed (table_of c.args.self.now) c.requires.formed

pub returns-clause-ordered : goal.returns-clause-ordered
returns-clause-ordered c = ordered (table_of c.args.self.now) c.requires.formed

pub returns-clause-ways_up : goal.returns-clause-ways_up
returns-clause-ways_up c = ways-up (table_of c.args.self.now) c.requires.formed

pub returns-clause-walks : goal.returns-clause-walks
returns-clause-walks c = walks (table_of c.args.self.now) c.requires.formed

pub returns-clause-scopes : goal.returns-clause-scopes
returns-clause-scopes c = has-scopes (table_of c.args.self.now) c.requires.formed
