-- The pieces are the text.
use Rattle.std.proofs.Common.{append-nil}
use Rattle.std.specs.Fmt.{decimal}
use Rattle.sch_stops.specs.Watches.{offset_text}
use Rattle.sch_stops.proofs.watches.write_offset.Goals as goal

pub returns : goal.returns
unfolding offset_text
returns g c = rw (← append-nil (decimal c.args.offset), ← c.format-offset.ensures.text) c.write_pieces.ensures
