-- By what a watch keeps.
use Rattle.std.proofs.Common.{◌≡◌, true, subst}
use Rattle.doc_tree.specs.Kinds.{is_document}
use Rattle.xp_watch.specs.Kept.{IsRight}
use Rattle.xp_watch.specs.Watching.{Watching}
use Rattle.xp_watch.proofs.watch.Watch.laws.Goals as goal

pub returns-clause-document : goal.returns-clause-document
returns-clause-document c = subst (λ (s : Watching). is_document s.tree.nodes ≡ true) c.self.view_is c.self.invariant.document

pub returns-clause-right : goal.returns-clause-right
returns-clause-right c = subst (λ (s : Watching). IsRight s.tree.nodes s.expressions s.kept) c.self.view_is c.self.invariant.keeps.right
