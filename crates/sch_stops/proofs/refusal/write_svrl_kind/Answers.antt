-- The pieces are the text.
use Rattle.std.proofs.Common.{append-nil}
use Rattle.sch_stops.specs.Refusals.{svrl_name, svrl_text}
use Rattle.sch_stops.proofs.refusal.write_svrl_kind.Goals as goal

pub returns : goal.returns
unfolding svrl_text
returns g c = rw (← append-nil (svrl_name c.args.kind.now), ← c.svrl_word-word.ensures, ← c.svrl_name-name.ensures) c.write_pieces.ensures
