-- The empty prefix has the default namespace.
use Rattle.std.proofs.Common.{sym, ap, ◌∙◌}
use Rattle.doc_tree.specs.Scope.{namespace_in}
use Rattle.name_scopes.proofs.DeclaringNames.{empty}
use Rattle.name_scopes.proofs.scope.Scope.namespace.Goals as goal

pub returns-then-is_empty : goal.returns-then-is_empty
returns-then-is_empty c =
    sym c.default_namespace.ensures ∙ ap (namespace_in c.args.self.now) (sym (empty c.args.prefix.now (sym c.is_empty.ensures ∙ c.if-is_empty.true)))
