use Rattle.pyx_core.proofs.PlainLemmas.{literal_utf8}
use Rattle.pyx_core.proofs.plain.literal_text.Goals as goal

pub from_utf8_unchecked-requires : goal.from_utf8_unchecked-requires
from_utf8_unchecked-requires c = literal_utf8 c.args.bytes.now c.requires.literal
