use Rattle.xp_parse.proofs.PathPatterns.{pattern_of_paths}
use Rattle.xp_parse.proofs.parser.Parser.pattern.Goals as goal

pub returns : goal.returns
returns c =
    let r = c.in_ok-first.ensures in
    pattern_of_paths _ _ _ _ _ _ _ r c.new-found.ensures.items c.in_ok-push.ensures.items (c.more_path_patterns.ensures r.ending r.ended)
