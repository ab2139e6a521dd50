-- The first attribute that is missing is told, and then the first fault of the references.
use Rattle.std.proofs.Common.{codes}
use Rattle.std.specs.Option.{option_or}
use Rattle.doc_tree.specs.Table.{kids_of}
use Rattle.svrl_read.specs.FirstFault.{found_fault, lacks, refs_fault}
use Rattle.svrl_read.proofs.FaultLemmas.{ended_exit, ended_then, refuses_stop, refuses_then}
use Rattle.svrl_read.proofs.source.Source.check_found.Goals as goal

pub returns-in_err-need : goal.returns-in_err-need
returns-in_err-need c =
    let T = c.args.self.now.tree.now.nodes in
    let n = c.args.n in
    ended_exit (found_fault T n) c.in_err-need.field-0.0 c.from_residual.result c.from_residual.ensures.1
    (refuses_stop (lacks T n (codes "location")) (option_or (lacks T n (codes "test")) (refs_fault T (kids_of T n))) c.in_err-need.field-0.0 c.in_err-need.ensures)

pub returns-in_err-need-2 : goal.returns-in_err-need-2
returns-in_err-need-2 c =
    let T = c.args.self.now.tree.now.nodes in
    let n = c.args.n in
    ended_exit (found_fault T n) c.in_err-need-2.field-0.0 c.from_residual-in_err-need-2.result c.from_residual-in_err-need-2.ensures.1
    (refuses_then (lacks T n (codes "location")) (option_or (lacks T n (codes "test")) (refs_fault T (kids_of T n))) c.in_err-need-2.field-0.0 c.in_ok-need.ensures
    (refuses_stop (lacks T n (codes "test")) (refs_fault T (kids_of T n)) c.in_err-need-2.field-0.0 c.in_err-need-2.ensures))

pub returns : goal.returns
returns c =
    let T = c.args.self.now.tree.now.nodes in
    let n = c.args.n in
    ended_then (lacks T n (codes "location")) (option_or (lacks T n (codes "test")) (refs_fault T (kids_of T n))) c.check_refs.result c.in_ok-need.ensures
    (ended_then (lacks T n (codes "test")) (refs_fault T (kids_of T n)) c.check_refs.result c.in_ok-need-2.ensures c.check_refs.ensures)
