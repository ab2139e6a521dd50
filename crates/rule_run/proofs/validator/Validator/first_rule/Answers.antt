use Rattle.std.proofs.Common.{◌∙◌, ap, refl, subst, sym, Ok, Err}
use Rattle.std.specs.Prelude.{slice_get}
use Rattle.xp_outcome.specs.Running.{Ran}
use Rattle.xp_meaning.specs.Results.{stop_of}
use Rattle.xslt_match.specs.Matching.{matching}
use Rattle.xslt_match.specs.Names.{HoldsNames}
use Rattle.xslt_match.proofs.OnePath.{none_behind}
use Rattle.sch_units.specs.Firing.{first_rule}
use Rattle.rule_run.specs.KeptMatches.{AreKept}
use Rattle.rule_run.proofs.MatchesKept.{if_rule}
use Rattle.xp_outcome.proofs.Runs.{onto_start, onto_alike, onto_done, onto_end, ran_alike, ran_done, ran_late, ran_moved}
use Rattle.xp_meaning.proofs.Exits.{exit_memory, exit_same}
use Rattle.xp_eval.proofs.Runs.{chosen_yes, chosen_no, onto_goes, onto_stops}
use Rattle.rule_run.proofs.RuleLets.{item_there, rules-next, rules-end, rules-refused}
use Rattle.rule_run.proofs.validator.Validator.first_rule.Goals as goal

pub returns-then-is_empty-clause-ran : goal.returns-then-is_empty-clause-ran
returns-then-is_empty-clause-ran g c =
    ran_alike (ap (first_rule c.args.self.now.caller.tree.now.nodes c.args.self.now.count c.args.lets.now c.args.self.now.node 0) (none_behind c.args.rules.now (sym c.is_empty.ensures ∙ c.if-is_empty.true))) (ran_done _ _ _)

pub loop-r-init : goal.loop-r-init
loop-r-init g c = record { rest = onto_start _ _ _; same = refl; node = c.none-names.ensures.node; named = c.none-names.ensures.none c.args.self.now.caller.tree.now.nodes c.args.reads.now; kept = c.in_ok-known.ensures.kept c.args.lets.now c.requires.kept }

pub fired-requires : goal.fired-requires
fired-requires g c = c.requires.counted _ _ (item_there _ _ _ c.loop-r-test.true c.index-rules-r.is)

pub returns-in_err-matched-clause-ran : goal.returns-in_err-matched-clause-ran
returns-in_err-matched-clause-ran g c =
    exit_same _ _ c.from_residual-in_err-matched.ensures.1
    (onto_stops _ _ (rules-next c.args.self.now.caller.tree.now.nodes c.args.self.now.count c.loop-r.lets c.args.self.now.node c.args.rules.now c.loop-r.r c.index-rules-r.result c.loop-r-test.true c.index-rules-r.is)
    _ c.loop-r.invariant.rest (if_rule (λ rule. Ran (matching c.args.self.now.caller.tree.now.nodes c.loop-r.lets rule.context c.args.self.now.node) (Err (stop_of c.in_err-matched.field-0.0)) c.loop-r.reads c.rule_matches.new.reads c.loop-r.steps c.rule_matches.new.steps) (slice_get c.args.rules.now c.loop-r.r) c.index-rules-r.result (item_there _ _ _ c.loop-r-test.true c.index-rules-r.is) c.in_err-matched.ensures.ran))

pub returns-then-matched-clause-ran : goal.returns-then-matched-clause-ran
returns-then-matched-clause-ran g c =
    onto_end (onto_alike (chosen_yes _ _ _ c.if-matched.true)
    (onto_goes _ _ (rules-next c.args.self.now.caller.tree.now.nodes c.args.self.now.count c.loop-r.lets c.args.self.now.node c.args.rules.now c.loop-r.r c.index-rules-r.result c.loop-r-test.true c.index-rules-r.is)
    c.loop-r.invariant.rest (if_rule (λ rule. Ran (matching c.args.self.now.caller.tree.now.nodes c.loop-r.lets rule.context c.args.self.now.node) (Ok c.in_ok-matched.matched) c.loop-r.reads c.rule_matches.new.reads c.loop-r.steps c.rule_matches.new.steps) (slice_get c.args.rules.now c.loop-r.r) c.index-rules-r.result (item_there _ _ _ c.loop-r-test.true c.index-rules-r.is) c.in_ok-matched.ensures.ran))) c.fired.ensures.ran

pub loop-r-preserved : goal.loop-r-preserved
loop-r-preserved g c = record {
  rest = onto_alike (chosen_no _ _ _ c.if-matched.false)
      (onto_goes _ _ (rules-next c.args.self.now.caller.tree.now.nodes c.args.self.now.count c.loop-r.lets c.args.self.now.node c.args.rules.now c.loop-r.r c.index-rules-r.result c.loop-r-test.true c.index-rules-r.is)
      c.loop-r.invariant.rest (if_rule (λ rule. Ran (matching c.args.self.now.caller.tree.now.nodes c.loop-r.lets rule.context c.args.self.now.node) (Ok c.in_ok-matched.matched) c.loop-r.reads c.rule_matches.new.reads c.loop-r.steps c.rule_matches.new.steps) (slice_get c.args.rules.now c.loop-r.r) c.index-rules-r.result (item_there _ _ _ c.loop-r-test.true c.index-rules-r.is) c.in_ok-matched.ensures.ran));
  same = c.loop-r.invariant.same;
  node = c.in_ok-matched.ensures.node;
  named = c.in_ok-matched.ensures.named;
  kept = c.rule_matches.ensures.kept;
}

pub returns-clause-ran : goal.returns-clause-ran
returns-clause-ran g c =
    onto_done (onto_alike (rules-end c.args.self.now.caller.tree.now.nodes c.args.self.now.count c.loop-r.lets c.args.self.now.node c.args.rules.now c.loop-r.r c.loop-r-test.false) c.loop-r.invariant.rest)

pub returns-in_err-matched-clause-kept : goal.returns-in_err-matched-clause-kept
returns-in_err-matched-clause-kept g c = subst (λ L. AreKept c.args.self.now.caller.tree.now L c.args.rules.now c.rule_matches.new.kept) c.loop-r.invariant.same c.rule_matches.ensures.kept

pub returns-then-matched-clause-kept : goal.returns-then-matched-clause-kept
returns-then-matched-clause-kept g c = subst (λ L. AreKept c.args.self.now.caller.tree.now L c.args.rules.now c.rule_matches.new.kept) c.loop-r.invariant.same c.rule_matches.ensures.kept

pub returns-clause-kept : goal.returns-clause-kept
returns-clause-kept g c = subst (λ L. AreKept c.args.self.now.caller.tree.now L c.args.rules.now c.loop-r.kept) c.loop-r.invariant.same c.loop-r.invariant.kept

pub returns-in_err-known-clause-ran : goal.returns-in_err-known-clause-ran
returns-in_err-known-clause-ran g c = exit_memory _ c.from_residual.ensures.1 (ran_late _ _ _)

pub returns-in_err-known-clause-kept : goal.returns-in_err-known-clause-kept
returns-in_err-known-clause-kept g c = c.in_err-known.ensures.kept c.args.lets.now c.requires.kept

pub rule_matches-requires-clause-class : goal.rule_matches-requires-clause-class
rule_matches-requires-clause-class g c = c.in_ok-known.ensures.known c.args.lets.now c.requires.kept

-- the rules that are left all refuse the node
pub returns-then-ends_here-clause-ran : goal.returns-then-ends_here-clause-ran
returns-then-ends_here-clause-ran g c =
    let T = c.args.self.now.caller.tree.now.nodes in
    let n = c.args.self.now.node in
    let named : HoldsNames T n c.levels.result c.loop-r.reads =
    subst (λ k. HoldsNames T n k c.loop-r.reads) (sym c.levels.ensures)
    (subst (λ m. HoldsNames T m c.loop-r.names.levels c.loop-r.reads) c.loop-r.invariant.node c.loop-r.invariant.named) in
    onto_end c.loop-r.invariant.rest (ran_moved refl refl refl c.tick_times.ensures
    (rules-refused T c.args.self.now.count c.loop-r.lets n c.levels.result c.loop-r.reads named c.args.rules.now c.loop-r.r c.loop-r.steps
    (λ k rule past there. c.ends_here.ensures c.if-ends_here.true c.args.self.now.caller.tree.now c.loop-r.lets k rule n
    (c.in_ok-known.ensures.known c.args.lets.now c.requires.kept) past there)))

pub returns-then-ends_here-clause-kept : goal.returns-then-ends_here-clause-kept
returns-then-ends_here-clause-kept g c = subst (λ L. AreKept c.args.self.now.caller.tree.now L c.args.rules.now c.loop-r.kept) c.loop-r.invariant.same c.loop-r.invariant.kept
