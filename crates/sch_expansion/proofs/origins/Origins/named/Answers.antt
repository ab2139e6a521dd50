use Rattle.std.proofs.Common.{◌≡◌, sym, ap, ◌∙◌, arith}
use Rattle.std.specs.Prelude.{slice_get}
use Rattle.sch_expansion.proofs.PlaceLemmas.{pattern-none, pattern-some}
use Rattle.sch_expansion.proofs.origins.Origins.named.Goals as goal

pub returns-in-Some : goal.returns-in-Some
returns-in-Some c =
    let its = pattern-some c.args.self.now 0 c.in-Some.place c.args.name.now (sym c.place.ensures ∙ c.in-Some.is) in
    let place : c.in-Some.place ≡ its.behind = omega (arith, its.is) in
    c.pattern.ensures ∙ ap (slice_get c.args.self.now) place ∙ its.pattern

pub returns-in-None : goal.returns-in-None
returns-in-None c = sym (pattern-none c.args.self.now 0 c.args.name.now (sym c.place.ensures ∙ c.in-None.is))
