-- Where no cell is wide none covers another; where no names lead upward all are held as they are.
use Rattle.std.proofs.Common.{◌∙◌, refl, sym}
use Rattle.cell_covers.proofs.HeldLemmas.{none-upward, plain-bare}
use Rattle.cell_covers.proofs.dropping.without_covered.Goals as goal

pub returns-then-is_plain-clause-alike : goal.returns-then-is_plain-clause-alike
returns-then-is_plain-clause-alike c =
    c.equal_is_held_alike.ensures c.args.tree.now.nodes c.args.reads c.args.reads refl
    (none-upward c.args.reads (sym c.is_plain.ensures ∙ c.if-is_plain.true))

pub returns-then-is_plain-clause-bare : goal.returns-then-is_plain-clause-bare
returns-then-is_plain-clause-bare c = plain-bare c.args.reads (sym c.is_plain.ensures ∙ c.if-is_plain.true) c.args.tree.now.nodes
