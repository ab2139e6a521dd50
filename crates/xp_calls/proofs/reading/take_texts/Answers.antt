use Rattle.std.proofs.Common.{ℕ, List, ◌∙◌, ap, drop, ◌+◌}
use Rattle.xp_outcome.specs.Evaluation.{done}
use Rattle.xp_outcome.specs.Recorded.{note}
use Rattle.xp_values.specs.declared.values.EvalFault.{EvalFault}
use Rattle.xp_outcome.proofs.Runs.{next_item, no_item, onto_alike, onto_moved, onto_visit, onto_reading, onto_done}
use Rattle.xp_meaning.specs.Reads.{taking, text_read}
use Rattle.xp_calls.proofs.Takings.{taking_none, taking_more}
use Rattle.xp_calls.proofs.reading.take_texts.Goals as goal

pub loop-n-preserved : goal.loop-n-preserved
loop-n-preserved g c =
    let T = c.args.tree.now.nodes in
    let rest : List ℕ = drop (c.loop-n.n-index + 1) c.args.nodes.now in
    onto_moved (c.in_ok-add.ensures.noted ∙ ap (note c.loop-n.reads) c.text_cell.ensures) c.tick.ensures
    (onto_visit (onto_reading (text_read T c.n-item.result)
    (onto_alike (ap (λ ns. taking {F = EvalFault} T ns (done tt)) (next_item _ _ _ c.loop-n-test.true c.n-item.is) ∙ taking_more T c.n-item.result rest (done tt))
    c.loop-n.invariant)))

pub returns : goal.returns
returns g c =
    let T = c.args.tree.now.nodes in
    onto_done (onto_alike (ap (λ ns. taking {F = EvalFault} T ns (done tt)) (no_item _ _ c.loop-n-test.false) ∙ taking_none T (done tt)) c.loop-n.invariant)
