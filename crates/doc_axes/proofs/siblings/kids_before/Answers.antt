-- The kids are cut at the place of the node.
use Rattle.std.proofs.Common.{sym, ◌∙◌, arith}
use Rattle.doc_axes.proofs.SiblingLemmas.{cut_at, cut_none}
use Rattle.doc_axes.proofs.siblings.kids_before.Goals as goal

pub split_at-requires : goal.split_at-requires
split_at-requires c = let k = cut_at c.args.n c.args.kids.now c.in-Some.place (sym c.place_among.ensures ∙ c.in-Some.is) in omega (arith, k.fits)

pub returns-in-Some : goal.returns-in-Some
returns-in-Some c = c.split_at.ensures.front ∙ (cut_at c.args.n c.args.kids.now c.in-Some.place (sym c.place_among.ensures ∙ c.in-Some.is)).before_is

pub returns-in-None : goal.returns-in-None
returns-in-None c = (cut_none c.args.n c.args.kids.now (sym c.place_among.ensures ∙ c.in-None.is)).1
