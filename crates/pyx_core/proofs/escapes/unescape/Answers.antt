use Rattle.pyx_core.proofs.ByteLemmas.{no_escape}
use Rattle.pyx_core.proofs.escapes.unescape.Goals as goal

pub returns-in-None : goal.returns-in-None
returns-in-None c = rw (no_escape c.args.text.now (rw c.as_bytes.ensures.value at c.in-None.ensures)) c.copy.ensures
