use Rattle.std.proofs.Common.{◌∙◌}
use Rattle.xslt_match.proofs.Chaining.{any_mem}
use Rattle.xslt_match.proofs.testing.is_among.Goals as goal

pub returns : goal.returns
returns c = c.contains.ensures.value ∙ any_mem c.args.n c.args.nodes.now
