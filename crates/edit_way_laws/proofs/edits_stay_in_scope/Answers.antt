-- Each edit makes what is in scope at its place.
use Rattle.edit_way_laws.proofs.ScopeLemmas.{stay-in-scope}
use Rattle.edit_way_laws.proofs.edits_stay_in_scope.Goals as goal

pub returns : goal.returns
returns c = stay-in-scope c.edits_keep_scope.ensures.sayings c.edits_keep_scope.ensures.renames c.edits_keep_scope.ensures.deletions c.edits_keep_scope.ensures.additions
