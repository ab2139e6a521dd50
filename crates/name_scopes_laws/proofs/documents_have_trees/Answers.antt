-- The events of the text lead to it.
use Rattle.name_scopes_laws.proofs.DocumentTrees.{document-tree}
use Rattle.name_scopes_laws.proofs.documents_have_trees.Goals as goal

pub returns : goal.returns
returns c = document-tree c.events_nest.ensures
