-- The nodes that are told of live, and their locator is at hand.
use Rattle.svrl_out.proofs.ToldLemmas.{told-live}
use Rattle.svrl_out.proofs.report.write_report_among.Goals as goal

pub write_all-requires : goal.write_all-requires
write_all-requires g c = record {
  ready = record {
    nodes = c.requires.told;
    live = told-live c.args.tree.now.nodes c.args.found.now c.args.nodes.now c.laws.ensures.ordered c.requires.told;
    locator = c.in_ok-locator.ensures;
    found = c.requires.reportable;
  };
}
