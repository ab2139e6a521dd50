-- Each node stands before the given one, is it, or stands below or after it.
use Rattle.doc_axes.proofs.AxisLemmas.{partition}
use Rattle.doc_axes.proofs.laws.axes_partition.Goals as goal

pub returns : goal.returns
returns c = partition c.args.tree.now.nodes c.laws.ensures.well_formed c.laws.ensures.ordered c.laws.ensures.ways_up c.laws.ensures.nested
