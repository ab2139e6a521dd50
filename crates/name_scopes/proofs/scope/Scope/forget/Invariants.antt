use Rattle.std.proofs.Common.{◌≡◌, drop}
use Rattle.name_scopes.proofs.scope.Scope.forget.Given as goal

abbrev pub invariant-loop : goal.invariant-loop
invariant-loop l = l.self ≡ drop l.counter l.initial.self
