use Rattle.std.proofs.Common.{sym}
use Rattle.doc_axes.proofs.Lending.{lent_length}
use Rattle.doc_axes.proofs.lent.Lent.len.Goals as goal

pub returns : goal.returns
returns c = sym (lent_length c.args.self.nodes.now c.args.self.from_end)
