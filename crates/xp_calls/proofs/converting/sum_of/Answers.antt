use Rattle.std.proofs.Common.{◌+◌, ◌∙◌, ap, drop, sym}
use Rattle.xp_outcome.proofs.Runs.{next_item, no_item}
use Rattle.xp_meaning.specs.Conversions.{sum_from}
use Rattle.xp_meaning.proofs.Exits.{gives_fault}
use Rattle.xp_calls.proofs.Summing.{gives_passed, sum_unread, sum_outside, sum_more}
use Rattle.xp_calls.proofs.converting.sum_of.Goals as goal

pub returns-in_err-number : goal.returns-in_err-number
returns-in_err-number c =
    gives_passed _ _ _ _ c.from_residual.ensures.1 c.in_err-number.ensures
    (λ f bad. c.loop-n.invariant ∙ ap (λ ns. sum_from c.args.tree.now.nodes c.loop-n.sum ns) (next_item _ _ _ c.loop-n-test.true c.n-item.is)
    ∙ sum_unread c.args.tree.now.nodes c.loop-n.sum c.n-item.result (drop (c.loop-n.n-index + 1) c.args.nodes.now) f (sym bad))

pub returns-in_err-sum : goal.returns-in_err-sum
returns-in_err-sum c =
    gives_fault _ _ _ c.from_residual-in_err-sum.ensures.1
    (c.loop-n.invariant ∙ ap (λ ns. sum_from c.args.tree.now.nodes c.loop-n.sum ns) (next_item _ _ _ c.loop-n-test.true c.n-item.is)
    ∙ sum_outside c.args.tree.now.nodes c.loop-n.sum c.n-item.result (drop (c.loop-n.n-index + 1) c.args.nodes.now) c.in_ok-number.number _
    (sym c.in_ok-number.ensures) c.in_err-sum.ensures.value)

pub loop-n-preserved : goal.loop-n-preserved
loop-n-preserved c =
    c.loop-n.invariant ∙ ap (λ ns. sum_from c.args.tree.now.nodes c.loop-n.sum ns) (next_item _ _ _ c.loop-n-test.true c.n-item.is)
    ∙ sum_more c.args.tree.now.nodes c.loop-n.sum c.n-item.result (drop (c.loop-n.n-index + 1) c.args.nodes.now) c.in_ok-number.number c.in_ok-sum.sum
    (sym c.in_ok-number.ensures) c.in_ok-sum.ensures.value

pub returns : goal.returns
returns c = c.loop-n.invariant ∙ ap (λ ns. sum_from c.args.tree.now.nodes c.loop-n.sum ns) (no_item _ _ c.loop-n-test.false)
