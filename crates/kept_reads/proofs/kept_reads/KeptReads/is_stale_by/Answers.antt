-- The slots are those of the lets that the unit has read.
use Rattle.std.proofs.Common.{◌∙◌}
use Rattle.kept_reads.proofs.ForgettingLemmas.{told_none, told_some}
use Rattle.kept_reads.proofs.kept_reads.KeptReads.is_stale_by.Goals as goal

pub returns-in-Some : goal.returns-in-Some
returns-in-Some c = c.has_flagged.ensures ∙ told_some c.args.flags.now.items c.in-Some.slots.now _ c.in-Some.ensures

pub returns-in-None : goal.returns-in-None
returns-in-None c = told_none c.args.flags.now.items _ c.in-None.ensures
