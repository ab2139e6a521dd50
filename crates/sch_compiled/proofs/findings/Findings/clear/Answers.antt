-- The cell of the node and the pattern is empty, and the others stay.
use Rattle.std.proofs.Common.{◌≡◌, ◌<◌, ap, None, sym, refl, arith, rules, slice_set}
use Rattle.sch_compiled.specs.Findings.{OutcomeTable}
use Rattle.sch_compiled.specs.inner.Cells.{shown}
use Rattle.sch_compiled.proofs.FindingsLemmas.{set-puts, none-puts}
use Rattle.sch_compiled.proofs.findings.Findings.clear.Goals as goal

pub returns-then-place-len : goal.returns-then-place-len
returns-then-place-len c =
    let was : c.args.self.now ≡ shown c.self.inside.patterns c.self.inside.cells.items = sym c.self.view_is in
    let low : c.args.p < c.self.inside.patterns = omega (arith, c.requires, ap (λ (t : OutcomeTable). t.patterns) was) in
    let after : c.match-index_mut.self ≡ shown c.self.inside.patterns (slice_set c.self.inside.cells.items c.place_of-place.result None) = search rules in
    set-puts c.args.self.now c.match-index_mut.self c.self.inside.patterns c.self.inside.cells.items c.self.inside.cells.items c.place_of-place.result c.args.p c.args.n None
    was after low c.place_of-place.ensures.place (omega (arith, c.self.inside.cells.ok.0)) (λ i. refl)

pub returns-else-place-len : goal.returns-else-place-len
returns-else-place-len c =
    let was : c.args.self.now ≡ shown c.self.inside.patterns c.self.inside.cells.items = sym c.self.view_is in
    let low : c.args.p < c.self.inside.patterns = omega (arith, c.requires, ap (λ (t : OutcomeTable). t.patterns) was) in
    none-puts c.args.self.now c.self.inside.patterns c.self.inside.cells.items c.args.p c.args.n was low (omega (arith, c.place_of-place.ensures.place, c.len.ensures, c.if-place-len.false))
