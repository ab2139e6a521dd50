-- The events of the text bring no more text than the document has.
use Rattle.name_scopes_laws.proofs.DocumentTrees.{document-back}
use Rattle.name_scopes_laws.proofs.documents_come_back.Goals as goal

pub returns : goal.returns
returns c = document-back c.events_nest.ensures c.text_comes_back.ensures c.tree_comes_back.ensures
