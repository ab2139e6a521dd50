-- Without tags no name is faulty.
use Rattle.std.proofs.Common.{sym, ◌∙◌}
use Rattle.doc_tree.specs.Scope.{scope_at}
use Rattle.name_scopes.proofs.PieceTests.{plain-names}
use Rattle.name_scopes.proofs.refuse.refuse_names.Goals as goal

pub returns-then-not-have_tag-clause-found : goal.returns-then-not-have_tag-clause-found
returns-then-not-have_tag-clause-found c =
    sym (plain-names (scope_at c.args.tree.now.nodes c.args.parent) c.args.events.now (sym c.have_tag.ensures ∙ c.if-not-have_tag.true))
