-- How the run of the node ended tells its outcome, what it read and its visits.
use Rattle.std.proofs.Common.{length, refl, ap, arith}
use Rattle.std.proofs.lemmas.Result.{on_err_weaker, on_ok_weaker}
use Rattle.kept_units.proofs.EvaluatingLemmas.{on_err, pair_cut_so, pair_ran_so, pair_unrun}
use Rattle.kept_units.proofs.PairLemmas.{alone_on}
use Rattle.kept_units.proofs.kept_units.KeptUnits.evaluate_pair.Goals as goal

pub returns-in_err-kept-clause-cuts : goal.returns-in_err-kept-clause-cuts
returns-in_err-kept-clause-cuts g c =
    on_err c.from_residual.result _
    (pair_unrun c.args.at.now.run.plan.now c.args.at.now.run.caller.tree.now.nodes _ c.args.at.now.pattern c.args.n c.args.self.now _ c.args.steps.now
    c.run_pair_with.new.steps c.in_err-kept.ensures.ran refl refl)

pub returns-in_err-kept-clause-alone : goal.returns-in_err-kept-clause-alone
returns-in_err-kept-clause-alone g c =
    record { lets = c.in_err-kept.ensures.slots; let_reads = refl; patterns = refl; places = refl; blocks = refl; stays = λ place had. had }

pub keep_pair-requires-clause-ready : goal.keep_pair-requires-clause-ready
keep_pair-requires-clause-ready g c = record {
  counted = c.requires.ready.counted;
  active = c.requires.ready.active;
  few = omega (arith, ap length c.in_ok-kept.ensures.slots, c.requires.ready.few);
  patterns = c.requires.ready.patterns;
  places = c.requires.ready.places;
}

pub returns-clause-runs : goal.returns-clause-runs
returns-clause-runs g c = on_ok_weaker c.keep_pair.result
    (pair_ran_so c.args.at.now.run.plan.now c.args.at.now.run.caller.tree.now.nodes c.in_ok-kept.kept.outcome c.in_ok-kept.kept.reads
    c.args.at.now.pattern c.args.n c.args.self.now _ c.keep_pair.new.self
    c.args.steps.now c.run_pair_with.new.steps c.in_ok-kept.ensures.counted c.in_ok-kept.ensures.ran refl refl)
    c.keep_pair.ensures.keeps

pub returns-clause-cuts : goal.returns-clause-cuts
returns-clause-cuts g c = on_err_weaker c.keep_pair.result
    (pair_cut_so c.args.at.now.run.plan.now c.args.at.now.run.caller.tree.now.nodes c.in_ok-kept.kept.outcome c.in_ok-kept.kept.reads
    c.args.at.now.pattern c.args.n c.args.self.now _ c.keep_pair.new.self
    c.args.steps.now c.run_pair_with.new.steps c.in_ok-kept.ensures.counted c.in_ok-kept.ensures.ran refl refl)
    c.keep_pair.ensures.cut

pub returns-clause-alone : goal.returns-clause-alone
returns-clause-alone g c =
    alone_on c.args.self.now _ c.keep_pair.new.self
    (record { lets = c.in_ok-kept.ensures.slots; let_reads = refl; patterns = refl; places = refl; blocks = refl; stays = λ place had. had })
    c.keep_pair.ensures.alone
