-- Its events are those of its items, which are in scope.
use Rattle.subtree_events.proofs.Subtrees.{subtrees-are-fragments}
use Rattle.subtree_events.proofs.subtrees_are_fragments.Goals as goal

pub returns : goal.returns
returns c = subtrees-are-fragments c.qnames_split.ensures c.well_formed_is_enough.ensures
