-- Kinds, texts, scopes, depths and counts are the same.
use Rattle.edit_iso_laws.proofs.RefusalLemmas.{refusals-move}
use Rattle.edit_iso_laws.proofs.refusals_move.Goals as goal

pub returns : goal.returns
returns c = refusals-move c.renumbered_trees_hang.ensures c.same_trees_are_renumbered.ensures c.paths_move.ensures
