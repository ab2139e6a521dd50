-- The text that an element holds alone is its string-value.
use Rattle.std.proofs.Common.{◌∙◌}
use Rattle.xp_values.proofs.LentLemmas.{value_of_holder}
use Rattle.xp_values.proofs.lent.lent_by_kid.Goals as goal

pub returns : goal.returns
returns c =
    c.value.ensures
    ∙ value_of_holder c.args.tree.now.nodes c.args.n c.in_ok-kid.kid c.laws.ensures.well_formed c.laws.ensures.walks c.requires c.in_ok-kid.ensures.kids c.in_ok-kid.ensures.kind
