-- Watch by watch: one that isn't stale read no touched cell.
use Rattle.xp_watch.proofs.EditLemmas.{edit_keeps}
use Rattle.xp_watch.proofs.laws.edits_keep.Goals as goal

pub returns : goal.returns
returns c = edit_keeps c.clean_watches_stand.ensures c.edits_leave_the_rest.ensures c.held_is_touched_alike.ensures c.held_stays_alike.ensures.held
