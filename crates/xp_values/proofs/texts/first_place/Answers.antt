-- A search finds the first place.
use Rattle.xp_values.proofs.TextLemmas.{found_place}
use Rattle.xp_values.proofs.texts.first_place.Goals as goal

pub returns : goal.returns
returns c = found_place c.args.s.now c.args.t.now c.find.result (rw (c.as_bytes.ensures.value, c.as_bytes-2.ensures.value) at c.find.ensures)
