-- The positions from a number on are those after the ones before it.
use Rattle.std.proofs.Common.{w64}
use Rattle.std.proofs.lemmas.Int.{to_z-of_z}
use Rattle.xp_values.proofs.PositionLemmas.{keeps_all}
use Rattle.xp_values.proofs.texts.kept_after.Goals as goal

pub returns-in-None : goal.returns-in-None
returns-in-None c =
    rw (c.in-None.is, c.skipped_before.ensures, to_z-of_z w64 c.args.from c.ranges.from) (keeps_all c.args.from c.args.most)

pub returns-in-Some : goal.returns-in-Some
returns-in-Some c = rw c.in-Some.is (rw (to_z-of_z w64 c.args.from c.ranges.from) at (c.kept_among.ensures c.args.most))
