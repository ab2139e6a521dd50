use Rattle.location_ways.proofs.Ways.{each_has_a_way}
use Rattle.location_ways.proofs.each_node_has_a_way_down.Goals as goal

pub returns : goal.returns
returns c = each_has_a_way c.args.tree.now.nodes c.laws.ensures.well_formed c.laws.ensures.ordered c.laws.ensures.ways_up c.axes_by_cells.ensures
