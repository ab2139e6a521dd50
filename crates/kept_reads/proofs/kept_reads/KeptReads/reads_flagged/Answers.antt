-- The slots are those of the lets that the unit has read.
use Rattle.std.proofs.Common.{◌∙◌}
use Rattle.kept_reads.proofs.ForgettingLemmas.{told_hit, told_miss}
use Rattle.kept_reads.proofs.kept_reads.KeptReads.reads_flagged.Goals as goal

pub returns-in-Some : goal.returns-in-Some
returns-in-Some c = c.has_flagged.ensures ∙ told_hit c.args.flags.now.items c.in-Some.slots.now _ c.in-Some.ensures

pub returns-in-None : goal.returns-in-None
returns-in-None c = told_miss c.args.flags.now.items _ c.in-None.ensures
