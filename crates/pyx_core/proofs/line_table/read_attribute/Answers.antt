use Rattle.pyx_core.proofs.ByteLemmas.{literal_after}
use Rattle.pyx_core.proofs.line_table.read_attribute.Goals as goal

pub unescape_line-requires : goal.unescape_line-requires
unescape_line-requires c = λ said. literal_after 32 c.args.body.now _ (c.requires.literal said) c.parts.ensures.text
