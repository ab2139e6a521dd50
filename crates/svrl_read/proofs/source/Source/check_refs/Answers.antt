-- A kid that has a fault is the first one.
use Rattle.doc_tree.specs.Table.{kids_of}
use Rattle.svrl_read.specs.FirstFault.{refs_fault}
use Rattle.svrl_read.proofs.FaultLemmas.{ended_exit, refs_next, refs_stop}
use Rattle.svrl_read.proofs.source.Source.check_refs.Goals as goal

pub returns-in_err-check_ref : goal.returns-in_err-check_ref
returns-in_err-check_ref c =
    let T = c.args.self.now.tree.now.nodes in
    ended_exit (refs_fault T (kids_of T c.args.n)) c.in_err-check_ref.field-0.0 c.from_residual.result c.from_residual.ensures.1
    (rw c.kids-kid-items.ensures at
    (refs_stop T c.kids-kid-items.result.now c.loop-kid.kid-index c.kid-item.result c.in_err-check_ref.field-0.0
    c.kid-item.is c.loop-kid-test.true c.loop-kid.invariant c.in_err-check_ref.ensures))

pub loop-kid-preserved : goal.loop-kid-preserved
loop-kid-preserved c =
    refs_next c.args.self.now.tree.now.nodes c.kids-kid-items.result.now c.loop-kid.kid-index c.kid-item.result
    c.kid-item.is c.loop-kid-test.true c.loop-kid.invariant c.in_ok-check_ref.ensures
