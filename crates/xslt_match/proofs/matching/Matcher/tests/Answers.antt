use Rattle.std.proofs.Common.{◌-◌, length, ap, sym, subst, ◌∙◌, map, true}
use Rattle.std.specs.Prelude.{slice_get}
use Rattle.std.proofs.lemmas.List.{nil_from_length}
use Rattle.xp_outcome.proofs.Runs.{onto_start, onto_alike, onto_done}
use Rattle.xp_meaning.proofs.Exits.{exit_same}
use Rattle.xp_typed_tree.specs.TypedView.{pattern_step_seen}
use Rattle.xp_eval.proofs.Runs.{onto_goes, onto_stops}
use Rattle.xp_typed_tree.specs.WellTyped.{PatternStepsTyped}
use Rattle.xslt_match.specs.inner.OneChain.{tests}
use Rattle.xslt_match.proofs.Chaining.{typed-next}
use Rattle.xslt_match.proofs.OneChain.{tests_next}
use Rattle.xslt_match.proofs.Keeping.{all_left, headed_left, left_next, numbered}
use Rattle.xslt_match.proofs.matching.Matcher.tests.Goals as goal

pub loop-step-init : goal.loop-step-init
loop-step-init g c = record {
  rest = onto_alike
      (ap (λ ss. tests c.args.self.now.evaluator.caller.tree.now.nodes c.args.self.now.evaluator.lets.now c.args.self.now.node (map pattern_step_seen ss) true) (sym c.as_slice-all.ensures.value))
      (onto_start _ _ _);
  typed = subst (λ ss. PatternStepsTyped (map pattern_step_seen ss)) (sym c.as_slice-all.ensures.value) c.requires.placed.typed;
  later = all_left c.as_slice-all.result.now;
  kept = c.requires.kept;
}

pub survives_there-requires-clause-placed : goal.survives_there-requires-clause-placed
survives_there-requires-clause-placed g c =
    let h = headed_left c.as_slice-all.result.now c.loop-step.later.now c.in-Some.step.now c.in-Some.rest.now c.loop-step.invariant.later c.in-Some.ensures.cases.0 in
    record {
      there = numbered c.args.self.now.pattern.now c.args.at.now.number (length c.as_slice-all.result.now - length c.loop-step.later.now) c.args.at.now.path.now c.in-Some.step.now c.requires.placed.there
          (ap (λ ss. slice_get ss (length c.as_slice-all.result.now - length c.loop-step.later.now)) (sym c.as_slice-all.ensures.value) ∙ h.first);
      typed = (typed-next c.loop-step.later.now c.in-Some.step.now c.in-Some.rest.now c.in-Some.ensures.cases.0 c.loop-step.invariant.typed).1;
    }

pub returns-in_err-stays-clause-ran : goal.returns-in_err-stays-clause-ran
returns-in_err-stays-clause-ran g c =
    exit_same _ _ c.from_residual.ensures.1 (onto_stops _ _
    (tests_next c.args.self.now.evaluator.caller.tree.now.nodes c.args.self.now.evaluator.lets.now c.args.self.now.node c.loop-step.later.now c.in-Some.step.now c.in-Some.rest.now c.ancestor_over-node.result c.loop-step.passed
    c.in-Some.ensures.cases.0 c.ancestor_over-node.ensures)
    _ c.loop-step.invariant.rest c.in_err-stays.ensures.ran)

pub loop-step-preserved : goal.loop-step-preserved
loop-step-preserved g c = record {
  rest = onto_goes _ _
      (tests_next c.args.self.now.evaluator.caller.tree.now.nodes c.args.self.now.evaluator.lets.now c.args.self.now.node c.loop-step.later.now c.in-Some.step.now c.in-Some.rest.now c.ancestor_over-node.result c.loop-step.passed
      c.in-Some.ensures.cases.0 c.ancestor_over-node.ensures)
      c.loop-step.invariant.rest c.in_ok-stays.ensures.ran;
  typed = (typed-next c.loop-step.later.now c.in-Some.step.now c.in-Some.rest.now c.in-Some.ensures.cases.0 c.loop-step.invariant.typed).2;
  later = left_next c.as_slice-all.result.now c.loop-step.later.now c.in-Some.step.now c.in-Some.rest.now c.loop-step.invariant.later c.in-Some.ensures.cases.0;
  kept = c.survives_there.ensures.kept;
}

pub returns-clause-ran : goal.returns-clause-ran
returns-clause-ran g c =
    onto_done (onto_alike (ap (λ ss. tests c.args.self.now.evaluator.caller.tree.now.nodes c.args.self.now.evaluator.lets.now c.args.self.now.node (map pattern_step_seen ss) c.loop-step.passed) (nil_from_length c.loop-step.later.now c.in_default.ensures.cases)) c.loop-step.invariant.rest)
