use Rattle.std.proofs.Common.{◌∙◌, ap, sym}
use Rattle.xp_tree.specs.View.{tree_of}
use Rattle.xp_tree.proofs.ViewLemmas.{of-Or, of-And, of-Equal, of-Rel, of-Sum, of-Prod, of-Neg, of-Union, of-Path, of-Filter, of-Variable, of-Literal, of-Number, of-Call, of-chain}
use Rattle.xp_print.specs.Printed.{is_base}
use Rattle.xp_print.proofs.terms.is_base.Goals as goal

pub returns-in-Or : goal.returns-in-Or
returns-in-Or c = sym (ap is_base (ap tree_of c.in-Or.is ∙ of-Or _ ∙ of-chain _ _))

pub returns-in-And : goal.returns-in-And
returns-in-And c = sym (ap is_base (ap tree_of c.in-And.is ∙ of-And _ ∙ of-chain _ _))

pub returns-in-Equal : goal.returns-in-Equal
returns-in-Equal c = sym (ap is_base (ap tree_of c.in-Equal.is ∙ of-Equal _ ∙ of-chain _ _))

pub returns-in-Rel : goal.returns-in-Rel
returns-in-Rel c = sym (ap is_base (ap tree_of c.in-Rel.is ∙ of-Rel _ ∙ of-chain _ _))

pub returns-in-Sum : goal.returns-in-Sum
returns-in-Sum c = sym (ap is_base (ap tree_of c.in-Sum.is ∙ of-Sum _ ∙ of-chain _ _))

pub returns-in-Prod : goal.returns-in-Prod
returns-in-Prod c = sym (ap is_base (ap tree_of c.in-Prod.is ∙ of-Prod _ ∙ of-chain _ _))

pub returns-in-Union : goal.returns-in-Union
returns-in-Union c = sym (ap is_base (ap tree_of c.in-Union.is ∙ of-Union _ ∙ of-chain _ _))

pub returns-in-Neg : goal.returns-in-Neg
returns-in-Neg c = sym (ap is_base (ap tree_of c.in-Neg.is ∙ of-Neg _ _ _))

pub returns-in-Path : goal.returns-in-Path
returns-in-Path c = sym (ap is_base (ap tree_of c.in-Path.is ∙ of-Path _ _ _))

pub returns-in-Filter : goal.returns-in-Filter
returns-in-Filter c = sym (ap is_base (ap tree_of c.in-Filter.is ∙ of-Filter _ _ _))

pub returns-in-Variable : goal.returns-in-Variable
returns-in-Variable c = sym (ap is_base (ap tree_of c.in-Variable.is ∙ of-Variable _ _))

pub returns-in-Literal : goal.returns-in-Literal
returns-in-Literal c = sym (ap is_base (ap tree_of c.in-Literal.is ∙ of-Literal _ _))

pub returns-in-Number : goal.returns-in-Number
returns-in-Number c = sym (ap is_base (ap tree_of c.in-Number.is ∙ of-Number _ _))

pub returns-in-Call : goal.returns-in-Call
returns-in-Call c = sym (ap is_base (ap tree_of c.in-Call.is ∙ of-Call _ _ _))
