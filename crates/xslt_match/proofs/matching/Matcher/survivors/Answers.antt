use Rattle.std.proofs.Common.{◌+◌, [], ◌∷◌, drop, if◌then◌else◌}
use Rattle.xp_outcome.specs.Evaluation.{done}
use Rattle.xp_outcome.proofs.Runs.{next_item, no_item, onto_done}
use Rattle.xp_meaning.proofs.Exits.{exit_same}
use Rattle.xp_typed_tree.specs.TypedView.{pattern_step_seen}
use Rattle.xp_eval.proofs.Runs.{gather_ends, gather_begins_alone}
use Rattle.xslt_match.specs.Matching.{survives}
use Rattle.xslt_match.proofs.Gathered.{grown_goes, grown_stops}
use Rattle.xslt_match.proofs.matching.Matcher.survivors.Goals as goal

pub loop-k-init : goal.loop-k-init
loop-k-init g c = record {
  rest = gather_begins_alone (λ _ k. survives c.args.self.now.evaluator.caller.tree.now.nodes c.args.self.now.evaluator.lets.now (pattern_step_seen c.args.at.now.step.now) c.args.self.now.node k) (λ _ k b. if b then k ∷ [] else []) _ 1 c.args.nodes.now c.new-left.ensures;
  kept = c.requires.kept;
}

pub returns-in_err-push_survivor-clause-ran : goal.returns-in_err-push_survivor-clause-ran
returns-in_err-push_survivor-clause-ran g c =
    exit_same _ _ c.from_residual.ensures.1
    (grown_stops (λ _ k. survives c.args.self.now.evaluator.caller.tree.now.nodes c.args.self.now.evaluator.lets.now (pattern_step_seen c.args.at.now.step.now) c.args.self.now.node k) (λ _ k b. if b then k ∷ [] else []) done c.loop-k.left (c.loop-k.k-index + 1) (drop c.loop-k.k-index c.args.nodes.now)
    c.k-item.result (drop (c.loop-k.k-index + 1) c.args.nodes.now) (next_item c.args.nodes.now c.loop-k.k-index c.k-item.result c.loop-k-test.true c.k-item.is)
    _ c.loop-k.invariant.rest c.in_err-push_survivor.ensures.ran)

pub loop-k-preserved : goal.loop-k-preserved
loop-k-preserved g c = record {
  rest =
      grown_goes (λ _ k. survives c.args.self.now.evaluator.caller.tree.now.nodes c.args.self.now.evaluator.lets.now (pattern_step_seen c.args.at.now.step.now) c.args.self.now.node k) (λ _ k b. if b then k ∷ [] else []) done c.loop-k.left (c.loop-k.k-index + 1) (drop c.loop-k.k-index c.args.nodes.now)
      c.k-item.result (drop (c.loop-k.k-index + 1) c.args.nodes.now) (next_item c.args.nodes.now c.loop-k.k-index c.k-item.result c.loop-k-test.true c.k-item.is)
      c.loop-k.invariant.rest c.in_ok-push_survivor.ensures.ran;
  kept = c.in_ok-push_survivor.ensures.kept;
}

pub returns-clause-ran : goal.returns-clause-ran
returns-clause-ran g c =
    onto_done (gather_ends (λ _ k. survives c.args.self.now.evaluator.caller.tree.now.nodes c.args.self.now.evaluator.lets.now (pattern_step_seen c.args.at.now.step.now) c.args.self.now.node k) (λ _ k b. if b then k ∷ [] else []) done c.loop-k.left (c.loop-k.k-index + 1) (drop c.loop-k.k-index c.args.nodes.now)
    (no_item c.args.nodes.now c.loop-k.k-index c.loop-k-test.false) c.loop-k.invariant.rest)
