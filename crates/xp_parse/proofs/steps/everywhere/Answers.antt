use Rattle.std.proofs.Common.{rules}
use Rattle.xp_parse.proofs.steps.everywhere.Goals as goal

pub returns : goal.returns
returns c = search rules
