use Rattle.std.proofs.Common.{◌∙◌, ap, map, sym}
use Rattle.xp_typed_tree.specs.TypedView.{path_seen, pattern_step_seen}
use Rattle.xp_outcome.specs.Evaluation.{all_reading}
use Rattle.xp_outcome.specs.Running.{no_memory}
use Rattle.xp_outcome.proofs.Runs.{ran_alike}
use Rattle.xp_meaning.proofs.Exits.{exit_memory}
use Rattle.xslt_match.specs.Matching.{path_matches}
use Rattle.xslt_match.specs.Names.{step_names}
use Rattle.xslt_match.specs.inner.Named.{all_named}
use Rattle.xslt_match.proofs.NameReads.{read_err, read_ok}
use Rattle.xslt_match.proofs.Recording.{holds_ran}
use Rattle.xslt_match.proofs.matching.Matcher.one_path.Goals as goal

pub returns-in_err-read_names_up-clause-ran : goal.returns-in_err-read_names_up-clause-ran
returns-in_err-read_names_up-clause-ran g c =
    let T = c.args.self.now.evaluator.caller.tree.now.nodes in
    let m = path_matches T c.args.self.now.evaluator.lets.now c.args.self.now.node (path_seen c.args.at.now.path.now) in
    exit_memory c.from_residual.result c.from_residual.ensures.1
    (ran_alike (ap (λ ss. all_reading (step_names T c.args.self.now.node (map pattern_step_seen ss)) m) (sym c.deref.ensures.value))
    (read_err _ tt m no_memory (c.in_err-read_names_up.ensures.ran _)))

pub read_names_up-requires-clause-named : goal.read_names_up-requires-clause-named
read_names_up-requires-clause-named g c =
    c.all_named-named.ensures c.args.self.now.evaluator.caller.tree.now c.args.self.now.evaluator.lets.now c.args.self.now.pattern.now c.requires.kept c.requires.placed
    ∙ ap (λ ss. all_named (map pattern_step_seen ss)) (sym c.deref.ensures.value)

pub returns-clause-ran : goal.returns-clause-ran
returns-clause-ran g c =
    let T = c.args.self.now.evaluator.caller.tree.now.nodes in
    let m = path_matches T c.args.self.now.evaluator.lets.now c.args.self.now.node (path_seen c.args.at.now.path.now) in
    ran_alike (ap (λ ss. all_reading (step_names T c.args.self.now.node (map pattern_step_seen ss)) m) (sym c.deref.ensures.value))
    (read_ok _ tt m (c.in_ok-read_names_up.ensures.ran _) c.path_matches.ensures.ran)

pub returns-clause-named : goal.returns-clause-named
returns-clause-named g c =
    holds_ran c.args.self.now.evaluator.caller.tree.now.nodes c.args.self.now.node c.read_names_up.new.levels c.path_matches.result c.path_matches.ensures.ran c.in_ok-read_names_up.ensures.named
