-- Past the end no flag is set.
use Rattle.std.proofs.Common.{arith}
use Rattle.kept_reads.proofs.ForgettingLemmas.{none_past}
use Rattle.kept_reads.proofs.forgetting.none_set.Goals as goal

pub returns : goal.returns
returns c = none_past c.args.flags.now.items c.loop-flag.flag-index (omega arith) c.loop-flag.invariant
