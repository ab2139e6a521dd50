use Rattle.std.proofs.Common.{rules}
use Rattle.xp_tree.proofs.terms.AxisName.as_str.Goals as goal

pub returns-in-SelfNode : goal.returns-in-SelfNode
returns-in-SelfNode c = search rules
