use Rattle.std.proofs.Common.{ap, sym}
use Rattle.xp_outcome.specs.Evaluation.{all_reading, done}
use Rattle.xp_outcome.specs.Running.{no_memory}
use Rattle.xp_outcome.proofs.Runs.{onto_alike, onto_start, ran_alike, ran_done}
use Rattle.xp_meaning.proofs.Exits.{exit_alloc}
use Rattle.xslt_match.specs.Names.{pattern_names}
use Rattle.xslt_match.proofs.NameReads.{paths-end, paths-next, read_err, read_ok}
use Rattle.xslt_match.proofs.matching.Matcher.read_names.Goals as goal

pub loop-path-init : goal.loop-path-init
loop-path-init c = λ count.
    let m = c.args.self.now in
    onto_alike (ap (λ ps. all_reading (pattern_names m.evaluator.caller.tree.now.nodes m.node ps) (done tt)) (sym c.paths-path-items.ensures.paths))
    (onto_start _ _ _)

pub returns-in_err-read_step_names : goal.returns-in_err-read_step_names
returns-in_err-read_step_names c = λ count.
    let m = c.args.self.now in
    exit_alloc _ c.from_residual.result c.from_residual.ensures.1
    ((c.loop-path.invariant count).go _ _ _
    (ran_alike
    (paths-next m.evaluator.caller.tree.now.nodes m.node c.paths-path-items.result.now c.loop-path.path-index c.path-item.result c.deref.result.now
    c.loop-path-test.true c.path-item.is c.deref.ensures.value)
    (read_err _ tt _ no_memory (c.in_err-read_step_names.ensures count))))

pub loop-path-preserved : goal.loop-path-preserved
loop-path-preserved c = λ count. record {
  go = λ r last end rest.
      let m = c.args.self.now in
      (c.loop-path.invariant count).go r last end
      (ran_alike
      (paths-next m.evaluator.caller.tree.now.nodes m.node c.paths-path-items.result.now c.loop-path.path-index c.path-item.result c.deref.result.now
      c.loop-path-test.true c.path-item.is c.deref.ensures.value)
      (read_ok _ tt _ (c.in_ok-read_step_names.ensures count) rest));
}

pub returns : goal.returns
returns c = λ count.
    let m = c.args.self.now in
    (c.loop-path.invariant count).go _ _ _
    (ran_alike
    (paths-end m.evaluator.caller.tree.now.nodes m.node c.paths-path-items.result.now c.loop-path.path-index c.loop-path-test.false)
    (ran_done tt _ _))
