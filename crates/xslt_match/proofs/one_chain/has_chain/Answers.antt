use Rattle.std.proofs.Common.{◌∙◌, map, sym}
use Rattle.xp_typed_tree.specs.TypedView.{pattern_step_seen}
use Rattle.xslt_match.proofs.OneChain.{chain_by_holder}
use Rattle.xslt_match.proofs.one_chain.has_chain.Goals as goal

pub returns-in-Some-2 : goal.returns-in-Some-2
returns-in-Some-2 c =
    let laws = c.laws.ensures in
    c.is_some.ensures
    ∙ chain_by_holder c.args.tree.now.nodes laws.well_formed laws.ordered laws.ways_up c.args.n c.requires.lives (pattern_step_seen c.args.first.now) (map pattern_step_seen c.args.later.now)
    c.in-Some.k c.holder.result c.args.from_root c.requires.typed c.requires.parents (sym c.origin.ensures ∙ c.in-Some.is) c.holder.ensures c.if-from_root.false
