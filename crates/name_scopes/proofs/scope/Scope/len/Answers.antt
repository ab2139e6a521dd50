-- There are as many declarations as bindings.
use Rattle.std.proofs.Common.{◌≡◌, length, sym, ap, ◌∙◌, arith}
use Rattle.std.proofs.lemmas.List.{length-map}
use Rattle.name_scopes.specs.inner.Scope.{bound, newest_first}
use Rattle.name_scopes.proofs.BindingLemmas.{newest-length}
use Rattle.name_scopes.proofs.scope.Scope.len.Goals as goal

pub returns : goal.returns
returns c =
    let same : length c.args.self.now ≡ length c.self.inside.bindings.items =
    ap length (sym c.self.view_is) ∙ (length-map (newest_first c.self.inside.bindings.items) (bound c.self.inside.prefixes) ∙ newest-length c.self.inside.bindings.items) in
    omega (arith, same, c.len.ensures)
