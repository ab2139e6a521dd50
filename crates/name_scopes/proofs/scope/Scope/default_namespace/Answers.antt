-- The nearest declaration of the empty prefix gives it, or none does.
use Rattle.std.proofs.Common.{None, Some, sym}
use Rattle.name_scopes.proofs.BindingLemmas.{default-is}
use Rattle.name_scopes.proofs.scope.Scope.default_namespace.Goals as goal

pub returns-in-Some : goal.returns-in-Some
returns-in-Some c = default-is c.args.self.now (Some c.in-Some.uri.now) (sym c.in-Some.ensures)

pub returns-in-None : goal.returns-in-None
returns-in-None c = default-is c.args.self.now None (sym c.in-None.ensures)
