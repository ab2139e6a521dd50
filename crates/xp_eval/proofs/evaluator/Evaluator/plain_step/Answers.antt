use Rattle.std.proofs.Common.{ℕ, ◌+◌, List, drop}
use Rattle.doc_axes.specs.Sets.{in_order}
use Rattle.xp_outcome.specs.Evaluation.{done, bind}
use Rattle.xp_outcome.proofs.Runs.{next_item, no_item, ran_bind, ran_stop, ran_done, onto_end}
use Rattle.xp_meaning.proofs.Exits.{exit_memory, ran_given}
use Rattle.xp_eval.specs.inner.Candidates.{candidates_of}
use Rattle.xp_eval.proofs.Runs.{gather_goes, gather_stops, gather_ends, gather_begins}
use Rattle.xp_eval.proofs.evaluator.Evaluator.plain_step.Goals as goal

pub loop-n-init : goal.loop-n-init
loop-n-init g c =
    gather_begins (λ (_ : ℕ) (n : ℕ). bind (candidates_of c.args.self.now.caller.tree.now.nodes c.args.step.now n) (λ ms. done ms)) (λ (_ : ℕ) (_ : ℕ) (ms : List ℕ). ms) (λ ms. done (in_order c.args.self.now.caller.tree.now.nodes ms)) _ 1 c.args.nodes.now c.new-selected.ensures

pub returns-in_err-push_candidates : goal.returns-in_err-push_candidates
returns-in_err-push_candidates g c =
    exit_memory c.from_residual.result c.from_residual.ensures.1 (gather_stops (λ (_ : ℕ) (n : ℕ). bind (candidates_of c.args.self.now.caller.tree.now.nodes c.args.step.now n) (λ ms. done ms)) (λ (_ : ℕ) (_ : ℕ) (ms : List ℕ). ms) (λ ms. done (in_order c.args.self.now.caller.tree.now.nodes ms)) c.loop-n.selected (c.loop-n.n-index + 1) (drop c.loop-n.n-index c.args.nodes.now) c.n-item.result (drop (c.loop-n.n-index + 1) c.args.nodes.now) (next_item c.args.nodes.now c.loop-n.n-index c.n-item.result c.loop-n-test.true c.n-item.is) _ c.loop-n.invariant (ran_stop _ _ c.in_err-push_candidates.ensures.ran))

pub loop-n-preserved : goal.loop-n-preserved
loop-n-preserved g c =
    gather_goes (λ (_ : ℕ) (n : ℕ). bind (candidates_of c.args.self.now.caller.tree.now.nodes c.args.step.now n) (λ ms. done ms)) (λ (_ : ℕ) (_ : ℕ) (ms : List ℕ). ms) (λ ms. done (in_order c.args.self.now.caller.tree.now.nodes ms)) c.loop-n.selected (c.loop-n.n-index + 1) (drop c.loop-n.n-index c.args.nodes.now) c.n-item.result (drop (c.loop-n.n-index + 1) c.args.nodes.now) (next_item c.args.nodes.now c.loop-n.n-index c.n-item.result c.loop-n-test.true c.n-item.is) c.in_ok-push_candidates.ensures.pushed c.loop-n.invariant (ran_bind _ c.in_ok-push_candidates.ensures.ran (ran_done _ _ _))

pub returns : goal.returns
returns g c =
    onto_end (gather_ends (λ (_ : ℕ) (n : ℕ). bind (candidates_of c.args.self.now.caller.tree.now.nodes c.args.step.now n) (λ ms. done ms)) (λ (_ : ℕ) (_ : ℕ) (ms : List ℕ). ms) (λ ms. done (in_order c.args.self.now.caller.tree.now.nodes ms)) c.loop-n.selected (c.loop-n.n-index + 1) (drop c.loop-n.n-index c.args.nodes.now) (no_item c.args.nodes.now c.loop-n.n-index c.loop-n-test.false) c.loop-n.invariant) (ran_given _ _ _ _ c.in_document_order.ensures)
