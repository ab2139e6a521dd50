use Rattle.std.proofs.Common.{◌≡◌, ◌∙◌, true, ap, refl, subst, sym, get_or, Some}
use Rattle.doc_tree.specs.Table.{is_live}
use Rattle.std.specs.Prelude.{IfSome, slice_get}
use Rattle.std.proofs.lemmas.Option.{IfSome_then, slice_get-get_or}
use Rattle.xp_outcome.specs.Recorded.{note_all}
use Rattle.xp_outcome.specs.Running.{Ran}
use Rattle.xp_outcome.proofs.Runs.{ran_late, ran_moved}
use Rattle.xp_meaning.specs.Results.{shown}
use Rattle.xp_meaning.proofs.Exits.{exit_memory}
use Rattle.xslt_match.specs.Matching.{matching}
use Rattle.xslt_match.specs.Refusing.{Refuses, names_up}
use Rattle.rule_run.proofs.MatchesKept.{each_if, kept_replaced, rule_if}
use Rattle.rule_run.proofs.validator.Validator.rule_matches.Goals as goal

-- a rule that is passed over: the names that are looked at, and one step
pub returns-then-saturating_sub-levels-clause-ran : goal.returns-then-saturating_sub-levels-clause-ran
returns-then-saturating_sub-levels-clause-ran g c =
    let T = c.args.self.now.caller.tree.now.nodes in
    IfSome_then (slice_get c.args.at.now.rules.now c.args.at.now.number)
    (subst (λ o. IfSome o (λ levels. IfSome (slice_get c.args.at.now.rules.now c.args.at.now.number) (λ rule. Refuses T c.args.lets.now rule.context levels c.args.self.now.node))) c.in-Some.is
    (IfSome_then c.refused_levels.result c.refused_levels.ensures (λ levels refuses. refuses c.args.self.now.caller.tree.now c.args.lets.now c.args.self.now.node c.requires.class)))
    (λ rule refuses. ran_moved refl (c.in_ok-read_to.ensures.read ∙ ap (λ m. note_all c.args.reads.now (names_up T m c.in-Some.levels)) c.requires.node) refl c.tick.ensures
    (refuses c.args.reads.now c.args.steps.now))

pub returns-in_err-read_to-clause-ran : goal.returns-in_err-read_to-clause-ran
returns-in_err-read_to-clause-ran g c =
    each_if (λ rule. Ran (matching c.args.self.now.caller.tree.now.nodes c.args.lets.now rule.context c.args.self.now.node) (shown c.from_residual.result)
    c.args.reads.now c.read_to.new.reads c.args.steps.now c.args.steps.now)
    (slice_get c.args.at.now.rules.now c.args.at.now.number)
    (λ rule there. exit_memory _ c.from_residual.ensures.1 (ran_moved refl c.in_err-read_to.ensures.unchanged refl refl (ran_late _ _ _)))

pub matches_with-requires-clause-kept : goal.matches_with-requires-clause-kept
matches_with-requires-clause-kept g c =
    (c.in_ok-reach.ensures.kept c.args.self.now.caller.tree.now c.args.lets.now c.args.at.now.rules.now c.requires.kept).steps c.args.at.now.number
    (get_or c.args.at.now.rules.now c.args.at.now.number c.index-at-r.result) c.index_mut-kept_steps.result.now
    (slice_get-get_or c.args.at.now.rules.now c.args.at.now.number c.index-at-r.result c.requires.there)
    (slice_get-get_or c.reach.new.self.rules.items c.args.at.now.number _ c.in_ok-reach.ensures.there ∙ ap Some (sym c.index_mut-kept_steps.ensures.value))

pub matches_with-requires-clause-live : goal.matches_with-requires-clause-live
matches_with-requires-clause-live g c = subst (λ n. is_live c.args.self.now.caller.tree.now.nodes n ≡ true) (sym c.requires.node) c.requires.live

pub returns-clause-ran : goal.returns-clause-ran
returns-clause-ran g c =
    rule_if (λ rule. Ran (matching c.args.self.now.caller.tree.now.nodes c.args.lets.now rule.context c.args.self.now.node) (shown c.matches_with.result)
    c.args.reads.now c.matches_with.new.reads c.args.steps.now c.matches_with.new.steps)
    (slice_get c.args.at.now.rules.now c.args.at.now.number) (get_or c.args.at.now.rules.now c.args.at.now.number c.index-at-r.result)
    (slice_get-get_or c.args.at.now.rules.now c.args.at.now.number c.index-at-r.result c.requires.there)
    (subst (λ n. Ran (matching c.args.self.now.caller.tree.now.nodes c.args.lets.now (get_or c.args.at.now.rules.now c.args.at.now.number c.index-at-r.result).context n) (shown c.matches_with.result)
    c.args.reads.now c.matches_with.new.reads c.args.steps.now c.matches_with.new.steps) c.requires.node c.matches_with.ensures.ran)

pub returns-clause-kept : goal.returns-clause-kept
returns-clause-kept g c =
    let before = c.in_ok-reach.ensures.kept c.args.self.now.caller.tree.now c.args.lets.now c.args.at.now.rules.now c.requires.kept in
    record {
      steps = kept_replaced c.args.self.now.caller.tree.now c.args.lets.now c.args.at.now.rules.now c.reach.new.self.rules.items _ c.args.at.now.number
          (get_or c.args.at.now.rules.now c.args.at.now.number c.index-at-r.result) c.matches_with.new.kept
          (slice_get-get_or c.args.at.now.rules.now c.args.at.now.number c.index-at-r.result c.requires.there) refl c.matches_with.ensures.kept before.steps;
      classes = before.classes;
    }

pub returns-in_err-reach-clause-ran : goal.returns-in_err-reach-clause-ran
returns-in_err-reach-clause-ran g c =
    each_if (λ rule. Ran (matching c.args.self.now.caller.tree.now.nodes c.args.lets.now rule.context c.args.self.now.node) (shown c.from_residual-in_err-reach.result)
    c.args.reads.now c.args.reads.now c.args.steps.now c.args.steps.now)
    (slice_get c.args.at.now.rules.now c.args.at.now.number) (λ rule there. exit_memory _ c.from_residual-in_err-reach.ensures.1 (ran_late _ _ _))

pub returns-in_err-reach-clause-kept : goal.returns-in_err-reach-clause-kept
returns-in_err-reach-clause-kept g c = c.in_err-reach.ensures.kept c.args.self.now.caller.tree.now c.args.lets.now c.args.at.now.rules.now c.requires.kept
