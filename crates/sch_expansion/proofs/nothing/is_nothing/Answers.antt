-- An `extends` stands for nothing just where nothing stands in its place.
use Rattle.std.proofs.Common.{◌∙◌}
use Rattle.sch_expansion.proofs.WalkLemmas.{extended-nothing}
use Rattle.sch_expansion.proofs.nothing.is_nothing.Goals as goal

pub returns-in-Extends : goal.returns-in-Extends
returns-in-Extends c =
    c.is_empty.ensures
    ∙ extended-nothing c.args.rules.now c.args.table.now c.args.item.now c.in-Extends.node c.in-Extends.rule c.as_str.result.now c.items_of.result.now c.as_str.ensures c.in-Extends.is
    c.requires.known c.items_of.ensures.nothing
