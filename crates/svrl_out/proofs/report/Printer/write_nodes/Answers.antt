-- Each node in its turn; a page that was not written whole leaves a front of all.
use Rattle.std.proofs.Common.{Err, ap, ◌∙◌}
use Rattle.std.proofs.Math.Seq.{take_all}
use Rattle.std.proofs.lemmas.Result.{err_from_is_err_and}
use Rattle.svrl_out.specs.inner.Printer.{node_text}
use Rattle.doc_locations.proofs.PlaceLemmas.{mem-at}
use Rattle.svrl_out.proofs.ToldLemmas.{told-lines}
use Rattle.svrl_out.proofs.PageLemmas.{but_done, but_failed, but_next, cut_by_memory, cut_by_sink}
use Rattle.svrl_out.proofs.report.Printer.write_nodes.Goals as goal

pub put_node-requires-clause-outcome : goal.put_node-requires-clause-outcome
put_node-requires-clause-outcome g c =
    c.requires.outcomes c.n-item.result (c.requires.ready.live c.n-item.result (mem-at c.args.self.now.nodes.now c.loop-n.n-index c.n-item.result c.n-item.is c.loop-n-test.true))

pub returns-in_err-put_node : goal.returns-in_err-put_node
returns-in_err-put_node g c =
    let error = err_from_is_err_and c.from_residual.result c.from_residual.ensures.1 in
    rw (← told-lines c.args.self.now.tree.now.nodes c.args.self.now.found.now c.args.self.now.nodes.now c.args.rules.now c.args.p c.requires.ready.nodes c.requires.counted)
    (cut_by_memory (node_text c.args.self.now c.args.p c.args.rules.now) c.args.self.now.nodes.now c.loop-n.n-index c.n-item.result c.n-item.is c.loop-n-test.true
    _ _ _ c.from_residual.result (error.1 ∙ ap Err error.2) c.loop-n.invariant.1)

pub returns-in_err-turn_if_full : goal.returns-in_err-turn_if_full
returns-in_err-turn_if_full g c =
    let error = err_from_is_err_and c.from_residual-in_err-turn_if_full.result c.from_residual-in_err-turn_if_full.ensures.1 in
    rw (← told-lines c.args.self.now.tree.now.nodes c.args.self.now.found.now c.args.self.now.nodes.now c.args.rules.now c.args.p c.requires.ready.nodes c.requires.counted)
    (cut_by_sink (node_text c.args.self.now c.args.p c.args.rules.now) c.args.self.now.nodes.now c.loop-n.n-index c.n-item.result c.n-item.is c.loop-n-test.true
    _ _ _ _ _ c.from_residual-in_err-turn_if_full.result (error.1 ∙ ap Err error.2) c.loop-n.invariant.1 c.in_ok-put_node.ensures.put c.in_err-turn_if_full.ensures)

pub loop-n-preserved : goal.loop-n-preserved
loop-n-preserved g c = (
  c.in_ok-put_node.ensures.laid,
  but_next (node_text c.args.self.now c.args.p c.args.rules.now) c.args.self.now.nodes.now c.loop-n.n-index c.n-item.result c.n-item.is c.loop-n-test.true
      _ _ _ _ _ _ c.loop-n.invariant.1 c.in_ok-put_node.ensures.put c.in_ok-turn_if_full.ensures,
)

pub returns-in_err-turn : goal.returns-in_err-turn
returns-in_err-turn g c =
    let error = err_from_is_err_and c.from_residual-in_err-turn.result c.from_residual-in_err-turn.ensures.1 in
    rw (← told-lines c.args.self.now.tree.now.nodes c.args.self.now.found.now c.args.self.now.nodes.now c.args.rules.now c.args.p c.requires.ready.nodes c.requires.counted)
    (but_failed c.from_residual-in_err-turn.result (error.1 ∙ ap Err error.2) (rw (take_all c.loop-n.n-index c.args.self.now.nodes.now c.loop-n-test.false) at c.loop-n.invariant.1) c.in_err-turn.ensures.wrote)

pub returns : goal.returns
returns g c =
    rw (← told-lines c.args.self.now.tree.now.nodes c.args.self.now.found.now c.args.self.now.nodes.now c.args.rules.now c.args.p c.requires.ready.nodes c.requires.counted)
    (but_done (rw (take_all c.loop-n.n-index c.args.self.now.nodes.now c.loop-n-test.false) at c.loop-n.invariant.1) c.in_ok-turn.ensures.wrote)
