-- The plan stays.
use Rattle.std.proofs.Common.{ap}
use Rattle.sch_commands.specs.Telling.{by_plan}
use Rattle.sch_commands.proofs.followed.SessionFollowed.write_state.Goals as goal

pub returns-clause-telling : goal.returns-clause-telling
returns-clause-telling g c = ap by_plan c.write_session.ensures.plan
