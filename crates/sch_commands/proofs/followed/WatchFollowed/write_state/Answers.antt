-- The expressions stay.
use Rattle.std.proofs.Common.{ap}
use Rattle.sch_commands.specs.Telling.{by_watches}
use Rattle.sch_commands.proofs.followed.WatchFollowed.write_state.Goals as goal

pub returns-clause-telling : goal.returns-clause-telling
returns-clause-telling g c = ap by_watches c.write_watch.ensures.expressions
