-- The flag of the row is set.
use Rattle.std.proofs.Common.{refl}
use Rattle.kept_reads.proofs.kept_reads.KeptReads.flag.Goals as goal

pub returns : goal.returns
returns c = record { entries = refl; row = c.row_of.result; row_is = c.row_of.ensures; blocks = c.set_flag.ensures }
