-- What is left of what was read is alike to it.
use Rattle.std.proofs.lemmas.Result.{on_ok_weaker}
use Rattle.xp_watch.proofs.kept.KeptWatches.keep.Goals as goal

pub returns-in-Ok-clause-keeps : goal.returns-in-Ok-clause-keeps
returns-in-Ok-clause-keeps c =
    on_ok_weaker c.put.result (λ puts. record { held = c.in-Ok.held; alike = c.in-Ok.ensures.alike; puts = puts }) c.put.ensures.puts
