use Rattle.std.proofs.Common.{◌∙◌, ap, sym, subst}
use Rattle.xp_outcome.proofs.Outcomes.{bind-right}
use Rattle.xp_outcome.proofs.Runs.{next_item, onto_start, onto_alike, onto_done}
use Rattle.xp_meaning.proofs.Exits.{exit_same}
use Rattle.xp_typed_tree.specs.TypedView.{paths_seen}
use Rattle.xp_typed_tree.specs.WellTyped.{PathsTyped}
use Rattle.xp_eval.proofs.Runs.{onto_goes, onto_stops}
use Rattle.xslt_match.specs.Matching.{some_path}
use Rattle.xslt_match.proofs.Chaining.{path_there, paths-next, paths-end}
use Rattle.xslt_match.proofs.matching.Matcher.some_path.Goals as goal

pub loop-number-init : goal.loop-number-init
loop-number-init g c = record {
  rest = onto_alike
      (ap (some_path c.args.self.now.evaluator.caller.tree.now.nodes c.args.self.now.evaluator.lets.now c.args.self.now.node) (sym c.paths-path-items.ensures.paths)
      ∙ sym (bind-right (some_path c.args.self.now.evaluator.caller.tree.now.nodes c.args.self.now.evaluator.lets.now c.args.self.now.node (paths_seen c.paths-path-items.result.now))))
      (onto_start _ _ _);
  typed = subst PathsTyped (sym c.paths-path-items.ensures.paths) c.paths-path-items.ensures.well_typed;
  kept = c.requires.kept;
}

pub path_matches-requires-clause-placed : goal.path_matches-requires-clause-placed
path_matches-requires-clause-placed g c = record {
  there = path_there c.args.self.now.pattern.now c.paths-path-items.result.now c.loop-number.number c.path-item.result c.paths-path-items.ensures.paths c.loop-number-test.true c.path-item.is;
  typed = (subst (λ ps. PathsTyped (paths_seen ps)) (next_item c.paths-path-items.result.now c.loop-number.number c.path-item.result c.loop-number-test.true c.path-item.is) c.loop-number.invariant.typed).0;
}

pub returns-in_err-here-clause-ran : goal.returns-in_err-here-clause-ran
returns-in_err-here-clause-ran g c =
    exit_same _ _ c.from_residual.ensures.1
    (onto_stops _ _ (paths-next c.args.self.now.evaluator.caller.tree.now.nodes c.args.self.now.evaluator.lets.now c.args.self.now.node c.paths-path-items.result.now c.loop-number.number c.path-item.result c.loop-number.matched c.loop-number-test.true c.path-item.is) _ c.loop-number.invariant.rest c.in_err-here.ensures.ran)

pub returns-clause-ran : goal.returns-clause-ran
returns-clause-ran g c =
    onto_done (onto_alike (paths-end c.args.self.now.evaluator.caller.tree.now.nodes c.args.self.now.evaluator.lets.now c.args.self.now.node c.paths-path-items.result.now c.loop-number.number c.loop-number.matched c.loop-number-test.false) c.loop-number.invariant.rest)

pub loop-number-preserved : goal.loop-number-preserved
loop-number-preserved g c = record {
  rest = onto_goes _ _ (paths-next c.args.self.now.evaluator.caller.tree.now.nodes c.args.self.now.evaluator.lets.now c.args.self.now.node c.paths-path-items.result.now c.loop-number.number c.path-item.result c.loop-number.matched c.loop-number-test.true c.path-item.is) c.loop-number.invariant.rest c.in_ok-here.ensures.ran;
  typed = (subst (λ ps. PathsTyped (paths_seen ps)) (next_item c.paths-path-items.result.now c.loop-number.number c.path-item.result c.loop-number-test.true c.path-item.is) c.loop-number.invariant.typed).1;
  kept = c.path_matches.ensures.kept;
}
