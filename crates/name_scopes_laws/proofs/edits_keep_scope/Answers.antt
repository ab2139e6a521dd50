-- Each node that stays keeps its way up, and the declarations on it.
use Rattle.name_scopes_laws.proofs.ScopeLemmas.{sayings-keep-scope, deletions-keep-scope, additions-keep-scope}
use Rattle.name_scopes_laws.proofs.RenamingScope.{renames-keep-scope}
use Rattle.name_scopes_laws.proofs.edits_keep_scope.Goals as goal

pub returns-clause-sayings : goal.returns-clause-sayings
returns-clause-sayings c = sayings-keep-scope c.sayings_keep_trees.ensures

pub returns-clause-renames : goal.returns-clause-renames
returns-clause-renames c = renames-keep-scope c.renames_keep_trees.ensures

pub returns-clause-deletions : goal.returns-clause-deletions
returns-clause-deletions c = deletions-keep-scope c.deletions_keep_trees.ensures

pub returns-clause-additions : goal.returns-clause-additions
returns-clause-additions c = additions-keep-scope c.additions_keep_trees.ensures.gains c.additions_keep_trees.ensures.insertions
