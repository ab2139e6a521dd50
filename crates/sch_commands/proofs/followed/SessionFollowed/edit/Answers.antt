-- What the command left dirty is what the next report runs.
use Rattle.std.proofs.Common.{ap}
use Rattle.sch_commands.specs.Telling.{by_plan}
use Rattle.sch_commands.proofs.EndLemmas.{ok_with}
use Rattle.sch_commands.proofs.SessionLemmas.{leaves-dirty}
use Rattle.sch_commands.proofs.followed.SessionFollowed.edit.Goals as goal

pub returns-clause-dirty : goal.returns-clause-dirty
returns-clause-dirty c =
    ok_with c.apply.result (λ dirty fresh. leaves-dirty c.args.self.now c.args.command.now c.apply.new.self c.apply.ensures.plan (dirty fresh)) c.apply.ensures.dirty

pub returns-clause-telling : goal.returns-clause-telling
returns-clause-telling c = ap by_plan c.apply.ensures.plan
