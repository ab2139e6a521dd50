use Rattle.std.proofs.Common.{◌≡◌, ◌-◌, drop, length, map, subst, sym, ◌∙◌}
use Rattle.xp_outcome.proofs.Runs.{ran_alike, ran_late}
use Rattle.xp_meaning.proofs.Exits.{exit_memory}
use Rattle.xp_typed_tree.specs.TypedView.{pattern_step_seen}
use Rattle.xp_typed_tree.specs.WellTyped.{PatternStepsTyped}
use Rattle.xslt_match.proofs.Chaining.{chains-begin}
use Rattle.xslt_match.proofs.Keeping.{all_left}
use Rattle.xslt_match.proofs.matching.Matcher.chains_on_way.Goals as goal

pub returns-in_err-way-clause-ran : goal.returns-in_err-way-clause-ran
returns-in_err-way-clause-ran g c = exit_memory _ c.from_residual.ensures.1 (ran_late _ _ _)

pub starts-first-requires-clause-way : goal.starts-first-requires-clause-way
starts-first-requires-clause-way g c = c.as_slice.ensures ∙ c.in_ok-way.ensures

pub chains-has_chain-requires-clause-way : goal.chains-has_chain-requires-clause-way
chains-has_chain-requires-clause-way g c = c.as_slice-3.ensures ∙ c.in_ok-way.ensures

pub chains-has_chain-requires-clause-placed : goal.chains-has_chain-requires-clause-placed
chains-has_chain-requires-clause-placed g c = record {
  there = c.requires.placed.there;
  typed = subst (λ ss. PatternStepsTyped (map pattern_step_seen ss)) (sym c.as_slice-2.ensures.value) c.requires.placed.typed;
  later = subst (λ ss. ss ≡ drop (length c.args.at.now.path.now.steps.items - length ss) c.args.at.now.path.now.steps.items) (sym c.as_slice-2.ensures.value) (all_left c.args.at.now.path.now.steps.items);
}

pub returns-clause-ran : goal.returns-clause-ran
returns-clause-ran g c =
    ran_alike (chains-begin c.args.self.now.evaluator.caller.tree.now.nodes c.args.self.now.evaluator.lets.now c.args.self.now.node c.args.at.now.path.now c.as_slice-2.result.now c.starts-first.result.now
    c.as_slice-2.ensures.value c.starts-first.ensures)
    c.chains-has_chain.ensures.ran
