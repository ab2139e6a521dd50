use Rattle.xp_parse.proofs.Wholes.{answers}
use Rattle.xp_parse.proofs.whole.parse_tokens.Goals as goal

pub returns : goal.returns
returns c = answers _ _ _ c.args.whole c.args.end _ _ c.new-parser.ensures c.chain-read.ensures c.finished.ensures
