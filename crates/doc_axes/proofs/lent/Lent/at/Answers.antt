-- A place counted from the end.
use Rattle.std.proofs.Common.{◌-◌, ◌<◌, length, slice_index_or, sym, ap, arith}
use Rattle.doc_axes.proofs.Lending.{lent_from_end, lent_length}
use Rattle.doc_axes.proofs.lent.Lent.at.Goals as goal

pub overflow_sub-result-then-self : goal.overflow_sub-result-then-self
overflow_sub-result-then-self c = omega (arith, c.requires, lent_length c.args.self.nodes.now c.args.self.from_end)

pub returns-then-self : goal.returns-then-self
returns-then-self c =
    let nodes = c.args.self.nodes.now in
    let below : c.args.place < length nodes = omega (arith, c.requires, lent_length nodes c.args.self.from_end) in
    lent_from_end nodes c.args.self.from_end c.args.place _ c.if-self.true below (ap (λ d. slice_index_or nodes (length nodes - 1 - c.args.place) d) (sym c.index-self-self.is))
