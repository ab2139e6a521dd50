-- The flag is the one in the slot.
use Rattle.std.proofs.Common.{rules}
use Rattle.kept_reads.proofs.forgetting.flag_at.Goals as goal

pub returns-in-Some : goal.returns-in-Some
returns-in-Some c = search rules
