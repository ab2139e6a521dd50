-- The name of a kept node is one that the tree gave.
use Rattle.std.proofs.Common.{sym, length}
use Rattle.doc_table.proofs.SoundLemmas.{name-below}
use Rattle.doc_table.proofs.bare.Bare.name.Goals as goal

pub returns-clause-known : goal.returns-clause-known
returns-clause-known c = λ sound.
    c.name.ensures.known (length c.args.self.now.names)
    (name-below (length c.args.self.now.names) c.args.self.now.nodes c.args.n c.in_ok-node.field-0.now sound.known (sym c.in_ok-node.ensures))
