-- What is kept is touched where what was read is.
use Rattle.xp_watch.proofs.EditLemmas.{dirty_stale}
use Rattle.xp_watch.proofs.laws.dirty_are_stale.Goals as goal

pub returns : goal.returns
returns c = dirty_stale c.held_is_touched_alike.ensures
