use Rattle.std.proofs.Common.{◌≡◌, sym, ap, subst, ◌∙◌}
use Rattle.std.specs.Prelude.{IfOk}
use Rattle.sch_model.specs.declared.flat.FlatPattern.{FlatPattern}
use Rattle.sch_expansion.specs.Flat.{pattern_from}
use Rattle.sch_expansion.specs.inner.Copies.{change_of}
use Rattle.sch_expansion.specs.inner.FlatBy.{flat_as, flat_by}
use Rattle.sch_expansion.proofs.flat.Flattener.pattern.Goals as goal

pub returns-in-None : goal.returns-in-None
returns-in-None c =
    let stays : pattern_from c.args.self.now.expansion (change_of c.new.result) c.args.pattern.now c.args.pattern.now ≡ flat_by c.args.self.now.expansion c.args.self.now.origins c.args.pattern.now =
    ap (λ o. pattern_from c.args.self.now.expansion (change_of o) c.args.pattern.now c.args.pattern.now) c.new.ensures
    ∙ ap (flat_as c.args.self.now.expansion c.args.self.now.origins c.args.pattern.now) (sym c.in-None.is) in
    subst (λ (its : FlatPattern). IfOk c.pattern_from-in-None.result (λ flat. flat ≡ its)) stays c.pattern_from-in-None.ensures
