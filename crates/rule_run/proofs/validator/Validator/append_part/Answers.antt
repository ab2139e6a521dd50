use Rattle.std.proofs.Common.{ap, sym, string_bytes}
use Rattle.xp_outcome.specs.Evaluation.{given}
use Rattle.xp_outcome.proofs.Runs.{ran_alike, ran_bind, ran_stop}
use Rattle.xp_values.specs.Texts.{concat}
use Rattle.xp_meaning.proofs.Exits.{ran_given}
use Rattle.rule_run.specs.inner.Joining.{with_text}
use Rattle.rule_run.proofs.Texts.{exit_text}
use Rattle.rule_run.proofs.validator.Validator.append_part.Goals as goal

pub returns-in_err-more : goal.returns-in_err-more
returns-in_err-more g c = exit_text _ c.from_residual.result _ c.from_residual.ensures.1 (ran_stop _ _ c.in_err-more.ensures)

pub returns : goal.returns
returns g c =
    ran_bind _ c.in_ok-more.ensures
    (ran_alike (ap (λ s. given (concat (string_bytes c.args.text.now) s)) (sym c.as_str.ensures))
    (ran_given (with_text c.append-appended.result (string_bytes c.append-appended.new.text)) _ _ _ c.append-appended.ensures))
