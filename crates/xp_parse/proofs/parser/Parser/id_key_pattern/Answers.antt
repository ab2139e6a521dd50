use Rattle.xp_parse.proofs.IdKeys.{no_call}
use Rattle.xp_parse.proofs.parser.Parser.id_key_pattern.Goals as goal

pub returns-in_default : goal.returns-in_default
returns-in_default c = no_call _ _ c.requires c.in_default.not-id c.in_default.not-key
