-- The flag of the block is set.
use Rattle.std.proofs.Common.{rules}
use Rattle.kept_reads.proofs.marking.set_flag.Goals as goal

pub returns-then-block-len : goal.returns-then-block-len
returns-then-block-len c = search rules
