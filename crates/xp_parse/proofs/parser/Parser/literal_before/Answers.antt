use Rattle.xp_parse.proofs.Exits.{exits}
use Rattle.xp_parse.proofs.IdKeys.{literal_and_mark}
use Rattle.xp_parse.specs.inner.PatternReading.{no_literal}
use Rattle.xp_parse.proofs.parser.Parser.literal_before.Goals as goal

pub returns-in_err-value : goal.returns-in_err-value
returns-in_err-value c = exits _ _ _ c.in_err-value.field-0.0 c.from_residual.ensures.1 (no_literal _ _ _ c.in_err-value.ensures)

pub returns : goal.returns
returns c = literal_and_mark _ _ _ _ _ _ c.in_ok-value.ensures c.take_behind.ensures
