use Rattle.xp_outcome.proofs.Runs.{ran_alike, ran_bind, ran_stop}
use Rattle.xp_meaning.proofs.Exits.{exit_same, ran_done_at}
use Rattle.rule_run.proofs.Texts.{text_taken}
use Rattle.rule_run.proofs.validator.Validator.text_in.Goals as goal

pub returns-in_err-text : goal.returns-in_err-text
returns-in_err-text g c =
    exit_same _ _ c.from_residual.ensures.1 (ran_alike (text_taken c.args.self.now.caller.tree.now.nodes c.args.value) (ran_stop _ _ c.in_err-text.ensures))

pub returns : goal.returns
returns g c =
    ran_alike (text_taken c.args.self.now.caller.tree.now.nodes c.args.value) (ran_bind _ c.in_ok-text.ensures (ran_done_at _ _ _ c.text_of.ensures))
