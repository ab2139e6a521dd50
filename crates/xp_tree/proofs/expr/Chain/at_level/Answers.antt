use Rattle.std.proofs.Common.{◌∙◌, ap, sym}
use Rattle.xp_tree.specs.View.{chain_of}
use Rattle.xp_tree.proofs.ViewLemmas.{of-Or, of-And, of-Equal, of-Rel, of-Sum, of-Prod, of-Union}
use Rattle.xp_tree.proofs.expr.Chain.at_level.Goals as goal

pub returns-in-Or : goal.returns-in-Or
returns-in-Or c = of-Or c.args.self ∙ ap (chain_of c.args.self) (sym c.in-Or.is)

pub returns-in-And : goal.returns-in-And
returns-in-And c = of-And c.args.self ∙ ap (chain_of c.args.self) (sym c.in-And.is)

pub returns-in-Equal : goal.returns-in-Equal
returns-in-Equal c = of-Equal c.args.self ∙ ap (chain_of c.args.self) (sym c.in-Equal.is)

pub returns-in-Rel : goal.returns-in-Rel
returns-in-Rel c = of-Rel c.args.self ∙ ap (chain_of c.args.self) (sym c.in-Rel.is)

pub returns-in-Sum : goal.returns-in-Sum
returns-in-Sum c = of-Sum c.args.self ∙ ap (chain_of c.args.self) (sym c.in-Sum.is)

pub returns-in-Prod : goal.returns-in-Prod
returns-in-Prod c = of-Prod c.args.self ∙ ap (chain_of c.args.self) (sym c.in-Prod.is)

pub returns-in-Union : goal.returns-in-Union
returns-in-Union c = of-Union c.args.self ∙ ap (chain_of c.args.self) (sym c.in-Union.is)
