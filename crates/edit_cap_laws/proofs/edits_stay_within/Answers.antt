-- Each edit makes no more live nodes than its refusal counts.
use Rattle.edit_cap_laws.proofs.CapLemmas.{stay-within}
use Rattle.edit_cap_laws.proofs.edits_stay_within.Goals as goal

pub returns : goal.returns
returns c = stay-within c.edits_keep_trees.ensures
