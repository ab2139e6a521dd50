-- What is left of what was read is alike to it.
use Rattle.std.proofs.lemmas.Result.{on_ok_weaker}
use Rattle.kept_units.proofs.kept_units.KeptUnits.keep_pair.Goals as goal

pub returns-in-Ok-clause-keeps : goal.returns-in-Ok-clause-keeps
returns-in-Ok-clause-keeps c = on_ok_weaker c.put_pair.result
    (λ puts. record {
      held = c.in-Ok.held;
      alike = c.in-Ok.ensures.alike;
      puts = puts;
    })
    c.put_pair.ensures.puts
