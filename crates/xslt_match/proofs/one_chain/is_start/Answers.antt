use Rattle.xslt_match.proofs.OneChain.{start_when}
use Rattle.xslt_match.proofs.one_chain.is_start.Goals as goal

pub returns-then-not-from_root : goal.returns-then-not-from_root
returns-then-not-from_root c =
    let laws = c.laws.ensures in
    start_when c.args.tree.now.nodes laws.well_formed laws.ordered laws.ways_up c.args.n c.requires c.args.from_root c.if-not-from_root.true
