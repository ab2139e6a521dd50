-- The first part that is refused gives the fault.
use Rattle.std.proofs.Common.{Err}
use Rattle.sch_read.proofs.JudgeLemmas.{attribute-stop, attribute-then, element-stop, element-then, name-stop}
use Rattle.sch_read.proofs.ToldLemmas.{told-exit}
use Rattle.sch_read.proofs.check.Checker.judge_as.Goals as goal

pub returns-in_err-refuse : goal.returns-in_err-refuse
returns-in_err-refuse c =
    told-exit c.in_err-refuse.field-0.0 c.from_residual.result c.from_residual.ensures.1
    (element-stop c.args.self.now.source.tree.now.nodes c.args.taken.now c.args.n c.args.word c.in_err-refuse.field-0.0 _ c.element_fault.ensures c.in_err-refuse.ensures)

pub returns-in_err-refuse-2 : goal.returns-in_err-refuse-2
returns-in_err-refuse-2 c =
    told-exit c.in_err-refuse-2.field-0.0 c.from_residual-in_err-refuse-2.result c.from_residual-in_err-refuse-2.ensures.1
    (element-then c.args.self.now.source.tree.now.nodes c.args.taken.now c.args.n c.args.word (Err c.in_err-refuse-2.field-0.0) _ c.element_fault.ensures c.in_ok-refuse.ensures
    (attribute-stop c.args.self.now.source.tree.now.nodes c.args.taken.now c.args.n c.args.word c.in_err-refuse-2.field-0.0 _ c.attribute_fault.ensures c.in_err-refuse-2.ensures))

pub returns-in_err-take_name : goal.returns-in_err-take_name
returns-in_err-take_name c =
    told-exit c.in_err-take_name.field-0.0 c.from_residual-in_err-take_name.result c.from_residual-in_err-take_name.ensures.1
    (element-then c.args.self.now.source.tree.now.nodes c.args.taken.now c.args.n c.args.word (Err c.in_err-take_name.field-0.0) _ c.element_fault.ensures c.in_ok-refuse.ensures
    (attribute-then c.args.self.now.source.tree.now.nodes c.args.taken.now c.args.n c.args.word (Err c.in_err-take_name.field-0.0) _ c.attribute_fault.ensures c.in_ok-refuse-2.ensures
    (name-stop c.args.self.now.source.tree.now.nodes c.args.taken.now c.args.n c.args.word c.in_err-take_name.field-0.0 c.in_err-take_name.ensures.refuses)))
