-- What the command left dirty is what the next refresh evaluates.
use Rattle.std.proofs.Common.{ap}
use Rattle.sch_commands.specs.Telling.{by_watches}
use Rattle.sch_commands.proofs.EndLemmas.{ok_with}
use Rattle.sch_commands.proofs.WatchLemmas.{watches-dirty}
use Rattle.sch_commands.proofs.followed.WatchFollowed.edit.Goals as goal

pub returns-clause-dirty : goal.returns-clause-dirty
returns-clause-dirty c =
    ok_with c.apply.result (λ dirty fresh. watches-dirty c.args.self.now c.args.command.now c.apply.new.self c.apply.ensures.expressions (dirty fresh)) c.apply.ensures.dirty

pub returns-clause-telling : goal.returns-clause-telling
returns-clause-telling c = ap by_watches c.apply.ensures.expressions
