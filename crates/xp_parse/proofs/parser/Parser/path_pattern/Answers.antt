use Rattle.sch_base.specs.declared.limits.TheConstants.{MAX_NESTING}
use Rattle.xp_parse.proofs.PlaceFails.{end_at}
use Rattle.xp_parse.proofs.parser.Parser.path_pattern.Goals as goal

pub returns-in_default : goal.returns-in_default
returns-in_default c = end_at MAX_NESTING _ _ c.in_default.ensures tt
