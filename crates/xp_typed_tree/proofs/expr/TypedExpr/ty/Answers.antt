use Rattle.std.proofs.Common.{◌∙◌, ap, sym}
use Rattle.xp_typed_tree.specs.TypedView.{typed_tree_of}
use Rattle.xp_typed_tree.specs.WellTyped.{type_of}
use Rattle.xp_typed_tree.proofs.TypedViewLemmas.{of-Or, of-And, of-Compare, of-Arith, of-Negate, of-Union, of-Path, of-Filter, of-Variable, of-Literal, of-Number, of-Call}
use Rattle.xp_typed_tree.proofs.expr.TypedExpr.ty.Goals as goal

pub returns-in-Or : goal.returns-in-Or
returns-in-Or c = sym (ap type_of (ap typed_tree_of c.in-Or.is ∙ of-Or _))

pub returns-in-And : goal.returns-in-And
returns-in-And c = sym (ap type_of (ap typed_tree_of c.in-And.is ∙ of-And _))

pub returns-in-Compare : goal.returns-in-Compare
returns-in-Compare c = sym (ap type_of (ap typed_tree_of c.in-Compare.is ∙ of-Compare _ _))

pub returns-in-Arith : goal.returns-in-Arith
returns-in-Arith c = sym (ap type_of (ap typed_tree_of c.in-Arith.is ∙ of-Arith _ _))

pub returns-in-Negate : goal.returns-in-Negate
returns-in-Negate c = sym (ap type_of (ap typed_tree_of c.in-Negate.is ∙ of-Negate _ _))

pub returns-in-Union : goal.returns-in-Union
returns-in-Union c = sym (ap type_of (ap typed_tree_of c.in-Union.is ∙ of-Union _))

pub returns-in-Path : goal.returns-in-Path
returns-in-Path c = sym (ap type_of (ap typed_tree_of c.in-Path.is ∙ of-Path _ _))

pub returns-in-Filter : goal.returns-in-Filter
returns-in-Filter c = sym (ap type_of (ap typed_tree_of c.in-Filter.is ∙ of-Filter _ _))

pub returns-in-Variable : goal.returns-in-Variable
returns-in-Variable c = sym (ap type_of (ap typed_tree_of c.in-Variable.is ∙ of-Variable _ _))

pub returns-in-Literal : goal.returns-in-Literal
returns-in-Literal c = sym (ap type_of (ap typed_tree_of c.in-Literal.is ∙ of-Literal _))

pub returns-in-Number : goal.returns-in-Number
returns-in-Number c = sym (ap type_of (ap typed_tree_of c.in-Number.is ∙ of-Number _))

pub returns-in-Call : goal.returns-in-Call
returns-in-Call c = c.result_type.ensures ∙ sym (ap type_of (ap typed_tree_of c.in-Call.is ∙ of-Call _ _))
