-- The pieces are the text.
use Rattle.sch_stops.specs.Refusals.{rule_text}
use Rattle.sch_stops.proofs.refusal.write_rule.Goals as goal

pub returns : goal.returns
unfolding rule_text
returns g c = rw (← c.format-rule.ensures.text, ← c.as_str-location.ensures) c.write_pieces.ensures
