-- By what edits leave, and the locality of expressions.
use Rattle.xp_watch.proofs.EditLemmas.{clean_stands}
use Rattle.xp_watch.proofs.laws.clean_watches_stand.Goals as goal

pub returns : goal.returns
returns c = clean_stands c.edits_leave_the_rest.ensures c.evaluations_are_local.ensures.expressions c.reads_are_touched.ensures
