-- From a node that does not live an upward axis leads nowhere.
use Rattle.std.proofs.Common.{◌∙◌, ap, sym}
use Rattle.cell_covers.specs.inner.Naming.{with_each_name}
use Rattle.cell_covers.proofs.DeadLemmas.{dead-axis}
use Rattle.cell_covers.proofs.names.spell_out.Goals as goal

pub returns-then-not-contains : goal.returns-then-not-contains
returns-then-not-contains c =
    let T = c.args.tree.now.nodes in
    sym (ap (with_each_name T c.args.held.now)
    (dead-axis T c.laws.ensures.ordered c.laws.ensures.ways_up c.args.along.node (sym c.contains.ensures ∙ c.if-not-contains.true)
    c.args.along.axis c.requires))
