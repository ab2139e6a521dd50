use Rattle.std.proofs.Common.{◌≡◌, ◌∙◌, [], ◌∷◌, ap, arith, subst, sym}
use Rattle.xp_outcome.proofs.Runs.{ran_alike, ran_late}
use Rattle.xp_meaning.proofs.Exits.{exit_memory, ran_ticked}
use Rattle.xp_typed_tree.specs.TypedView.{paths_seen}
use Rattle.xp_typed_tree.specs.WellTyped.{PathsTyped}
use Rattle.xslt_match.proofs.Chaining.{names_matched, path_there}
use Rattle.xslt_match.proofs.Recording.{holds_ran}
use Rattle.xslt_match.proofs.OnePath.{one_item, path_alone}
use Rattle.xslt_match.proofs.matching.matches_with.Goals as goal

pub returns-in_err-reach-clause-ran : goal.returns-in_err-reach-clause-ran
returns-in_err-reach-clause-ran g c = exit_memory _ c.from_residual.ensures.1 (ran_ticked c.tick.ensures (ran_late _ _ _))

pub one_path-requires-clause-only : goal.one_path-requires-clause-only
one_path-requires-clause-only g c =
    sym c.paths.ensures.paths ∙ ap paths_seen (one_item c.paths.result.now c.path-item.result (omega (arith, c.in-len1.len_at_least, c.in-len1.len_below)) c.path-item.is)

pub one_path-requires-clause-placed : goal.one_path-requires-clause-placed
one_path-requires-clause-placed g c = record {
  there = path_there c.args.pattern.now c.paths.result.now 0 c.path-item.result c.paths.ensures.paths (omega (arith, c.in-len1.len_at_least)) c.path-item.is;
  typed = (subst (λ ps. PathsTyped (paths_seen ps))
      (one_item c.paths.result.now c.path-item.result (omega (arith, c.in-len1.len_at_least, c.in-len1.len_below)) c.path-item.is)
      (subst PathsTyped (sym c.paths.ensures.paths) c.paths.ensures.well_typed)).0;
}

pub returns-in-len1-clause-ran : goal.returns-in-len1-clause-ran
returns-in-len1-clause-ran g c =
    let T = c.args.evaluator.now.caller.tree.now.nodes in
    let L = c.args.evaluator.now.lets.now in
    let one : c.paths.result.now ≡ c.path-item.result ∷ [] =
    one_item c.paths.result.now c.path-item.result (omega (arith, c.in-len1.len_at_least, c.in-len1.len_below)) c.path-item.is in
    names_matched T L c.args.at.now.node c.args.pattern.now c.tick.ensures
    (ran_alike (path_alone T c.args.at.now.node L c.args.pattern.now c.paths.result.now c.path-item.result c.paths.ensures.paths one) c.one_path.ensures.ran)

pub returns-in_default-clause-ran : goal.returns-in_default-clause-ran
returns-in_default-clause-ran g c =
    names_matched c.args.evaluator.now.caller.tree.now.nodes c.args.evaluator.now.lets.now c.args.at.now.node c.args.pattern.now c.tick.ensures c.several_paths.ensures.ran

pub returns-in_default-clause-named : goal.returns-in_default-clause-named
returns-in_default-clause-named g c =
    holds_ran c.args.evaluator.now.caller.tree.now.nodes c.args.at.now.node c.args.at.now.levels c.several_paths.result c.several_paths.ensures.ran c.requires.named
