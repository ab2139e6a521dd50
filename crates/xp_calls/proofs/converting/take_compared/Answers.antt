use Rattle.std.proofs.Common.{◌∙◌, sym, ap}
use Rattle.xp_outcome.specs.Evaluation.{done}
use Rattle.xp_outcome.specs.Running.{no_memory}
use Rattle.xp_outcome.proofs.Runs.{ran_alike, ran_done}
use Rattle.xp_values.specs.declared.values.EvalFault.{EvalFault}
use Rattle.xp_meaning.specs.Conversions.{nodes_of}
use Rattle.xp_meaning.specs.Reads.{taking}
use Rattle.xp_calls.proofs.Takings.{taking_none, taking-append, taken_err, taken_ok}
use Rattle.xp_calls.proofs.Comparing.{left_truth, right_truth, no_truth}
use Rattle.xp_calls.proofs.converting.take_compared.Goals as goal

pub returns-then-is_truth : goal.returns-then-is_truth
returns-then-is_truth g c =
    ran_alike
    (ap (λ ns. taking {F = EvalFault} c.args.tree.now.nodes ns (done tt)) (left_truth c.args.left.now c.args.right.now (sym c.is_truth.ensures ∙ c.if-is_truth.true))
    ∙ taking_none c.args.tree.now.nodes (done tt))
    (ran_done _ _ _)

pub returns-then-is_truth-2 : goal.returns-then-is_truth-2
returns-then-is_truth-2 g c =
    ran_alike
    (ap (λ ns. taking {F = EvalFault} c.args.tree.now.nodes ns (done tt))
    (right_truth c.args.left.now c.args.right.now (sym c.is_truth.ensures ∙ c.if-is_truth.false) (sym c.is_truth-2.ensures ∙ c.if-is_truth-2.true))
    ∙ taking_none c.args.tree.now.nodes (done tt))
    (ran_done _ _ _)

pub returns-in-Err : goal.returns-in-Err
returns-in-Err g c =
    ran_alike
    (ap (λ ns. taking {F = EvalFault} c.args.tree.now.nodes ns (done tt))
    (no_truth c.args.left.now c.args.right.now (sym c.is_truth.ensures ∙ c.if-is_truth.false) (sym c.is_truth-2.ensures ∙ c.if-is_truth-2.false))
    ∙ taking-append c.args.tree.now.nodes (nodes_of c.args.left.now) (nodes_of c.args.right.now) (done tt))
    (taken_err _ _ _ _ c.nodes_of.ensures no_memory c.in-Err.ensures)

pub returns-in-Ok : goal.returns-in-Ok
returns-in-Ok g c =
    ran_alike
    (ap (λ ns. taking {F = EvalFault} c.args.tree.now.nodes ns (done tt))
    (no_truth c.args.left.now c.args.right.now (sym c.is_truth.ensures ∙ c.if-is_truth.false) (sym c.is_truth-2.ensures ∙ c.if-is_truth-2.false))
    ∙ taking-append c.args.tree.now.nodes (nodes_of c.args.left.now) (nodes_of c.args.right.now) (done tt))
    (taken_ok _ _ _ _ c.nodes_of.ensures c.in-Ok.ensures
    (ran_alike (ap (λ ns. taking {F = EvalFault} c.args.tree.now.nodes ns (done tt)) (sym c.nodes_of-in-Ok.ensures)) c.take_texts-in-Ok.ensures))
