use Rattle.xp_outcome.proofs.Runs.{ran_alike, ran_bind, ran_done, ran_stop}
use Rattle.xp_meaning.proofs.Exits.{exit_same}
use Rattle.xp_eval.proofs.Runs.{chosen_yes, chosen_no}
use Rattle.rule_run.proofs.Findings.{asserted-by}
use Rattle.rule_run.proofs.validator.Validator.asserted.Goals as goal

pub returns-in_err-is_finding : goal.returns-in_err-is_finding
returns-in_err-is_finding g c =
    exit_same _ _ c.from_residual.ensures.1
    (ran_alike (asserted-by c.args.self.now.caller.tree.now.nodes c.args.lets.now c.args.self.now.node c.args.subject.now c.args.i c.args.assertion.now) (ran_stop _ _ c.in_err-is_finding.ensures))

pub returns-in_err-finding : goal.returns-in_err-finding
returns-in_err-finding g c =
    exit_same _ _ c.from_residual-in_err-finding.ensures.1
    (ran_alike (asserted-by c.args.self.now.caller.tree.now.nodes c.args.lets.now c.args.self.now.node c.args.subject.now c.args.i c.args.assertion.now)
    (ran_bind _ c.in_ok-is_finding.ensures (ran_alike (chosen_yes _ _ _ c.if-branch.true) (ran_stop _ _ c.in_err-finding.ensures))))

pub returns-then-branch : goal.returns-then-branch
returns-then-branch g c =
    ran_alike (asserted-by c.args.self.now.caller.tree.now.nodes c.args.lets.now c.args.self.now.node c.args.subject.now c.args.i c.args.assertion.now)
    (ran_bind _ c.in_ok-is_finding.ensures (ran_alike (chosen_yes _ _ _ c.if-branch.true) (ran_bind _ c.in_ok-finding.ensures (ran_done _ _ _))))

pub returns : goal.returns
returns g c =
    ran_alike (asserted-by c.args.self.now.caller.tree.now.nodes c.args.lets.now c.args.self.now.node c.args.subject.now c.args.i c.args.assertion.now)
    (ran_bind _ c.in_ok-is_finding.ensures (ran_alike (chosen_no _ _ _ c.if-branch.false) (ran_done _ _ _)))
