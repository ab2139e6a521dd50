use Rattle.xp_parse.proofs.Exits.{exits}
use Rattle.xp_parse.proofs.PatternWholes.{answers}
use Rattle.xp_parse.proofs.whole.parse_pattern_tokens.Goals as goal

pub returns-in_err-paths : goal.returns-in_err-paths
returns-in_err-paths c =
    exits _ _ _ c.in_err-paths.field-0.0 c.from_residual.ensures.1
    (answers _ _ _ c.args.whole c.args.end _ _ c.new-parser.ensures c.pattern-read.ensures c.in_err-paths.ensures)

pub returns : goal.returns
returns c = answers _ _ _ c.args.whole c.args.end _ _ c.new-parser.ensures c.pattern-read.ensures c.in_ok-paths.ensures
