use Rattle.std.proofs.Common.{ap, sym}
use Rattle.xp_outcome.specs.Evaluation.{done}
use Rattle.xp_outcome.proofs.Runs.{ran_alike, ran_bind, ran_stop}
use Rattle.xp_meaning.proofs.Exits.{ran_given}
use Rattle.xp_values.specs.Texts.{normalize_space}
use Rattle.xp_values.specs.declared.values.EvalFault.{EvalFault}
use Rattle.xp_values.specs.declared.values.Value.TheVariants as values
use Rattle.xp_calls.proofs.caller.Caller.normalize.Goals as goal

pub returns-in-Err : goal.returns-in-Err
returns-in-Err g c = ran_stop _ _ c.in-Err.ensures

pub returns-in-Ok : goal.returns-in-Ok
returns-in-Ok g c =
    ran_bind _ c.in-Ok.ensures
    (ran_alike (ap (λ s. done {F = EvalFault} (values.Chars (normalize_space s))) (sym c.as_str.ensures))
    (ran_given _ _ _ _ (c.as_chars.ensures _ c.normalize_space.ensures)))
