use Rattle.std.proofs.Common.{rules}
use Rattle.xp_print.proofs.terms.add_unless.Goals as goal

pub returns-then-case : goal.returns-then-case
returns-then-case c = search rules
