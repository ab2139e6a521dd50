-- By the marks of an edit.
use Rattle.edit_session.proofs.UnitLemmas.{stale-after}
use Rattle.edit_session.proofs.laws.stale_after_edit.Goals as goal

pub returns : goal.returns
returns c = stale-after
