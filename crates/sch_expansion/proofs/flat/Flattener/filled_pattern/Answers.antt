use Rattle.std.proofs.Common.{◌≡◌, List, ℕ, ap, subst, ◌∙◌}
use Rattle.std.specs.Prelude.{IfOk}
use Rattle.sch_expansion.specs.Filled.{filled}
use Rattle.sch_expansion.specs.Flat.{pattern_from}
use Rattle.sch_expansion.specs.inner.Copies.{change_of}
use Rattle.sch_expansion.proofs.flat.Flattener.filled_pattern.Goals as goal

pub returns-in-Ok : goal.returns-in-Ok
returns-in-Ok c =
    let changes : change_of c.new-copier.result ≡ filled c.args.pattern.now.params =
    ap change_of c.new-copier.ensures ∙ ap filled c.in-Ok.ensures ∙ ap filled c.as_slice.ensures in
    subst (λ (change : List ℕ → List ℕ). IfOk c.pattern_from.result (λ flat. flat ≡ pattern_from c.args.self.now.expansion change c.args.pattern.now c.args.origin.now))
    changes c.pattern_from.ensures
