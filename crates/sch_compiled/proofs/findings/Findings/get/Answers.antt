-- The outcome stands in the cell of the node and the pattern.
use Rattle.std.proofs.Common.{◌≡◌, ◌<◌, ap, sym, arith, rules}
use Rattle.sch_compiled.specs.Findings.{OutcomeTable}
use Rattle.sch_compiled.specs.inner.Cells.{shown}
use Rattle.sch_compiled.proofs.FindingsLemmas.{shown-at}
use Rattle.sch_compiled.proofs.findings.Findings.get.Goals as goal

pub returns-in_err-get : goal.returns-in_err-get
returns-in_err-get c =
    let was : c.args.self.now ≡ shown c.self.inside.patterns c.self.inside.cells.items = sym c.self.view_is in
    let low : c.args.p < c.self.inside.patterns = omega (arith, c.requires, ap (λ (t : OutcomeTable). t.patterns) was) in
    rw (shown-at c.args.self.now c.self.inside.patterns c.args.p c.args.n c.self.inside.cells.items was low, ← c.place_of-place.ensures.place) (search rules)

pub returns : goal.returns
returns c =
    let was : c.args.self.now ≡ shown c.self.inside.patterns c.self.inside.cells.items = sym c.self.view_is in
    let low : c.args.p < c.self.inside.patterns = omega (arith, c.requires, ap (λ (t : OutcomeTable). t.patterns) was) in
    rw (shown-at c.args.self.now c.self.inside.patterns c.args.p c.args.n c.self.inside.cells.items was low, ← c.place_of-place.ensures.place) (search rules)
