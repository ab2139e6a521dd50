-- The nodes of the marks are those of which something is told.
use Rattle.std.proofs.Common.{sym}
use Rattle.std.proofs.lemmas.Result.{IfOk-weaker}
use Rattle.sch_compiled.specs.Findings.{AreTold}
use Rattle.sch_compiled.proofs.MarkLemmas.{all-told}
use Rattle.sch_compiled.proofs.findings.Findings.told_nodes.Goals as goal

pub returns : goal.returns
returns c = IfOk-weaker c.marked_nodes.result _ (AreTold c.args.self.now)
    (λ nodes. all-told c.args.self.now c.self.inside.patterns c.self.inside.cells.items c.self.inside.marks.items c.as_slice.result.now nodes (sym c.self.view_is) c.self.invariant c.as_slice.ensures.value)
    c.marked_nodes.ensures
