-- What is held in two parts.
use Rattle.std.proofs.Common.{◌++◌}
use Rattle.std.specs.List.{flat_map}
use Rattle.sch_flat.specs.FlatDocument.{let_events, assertion_events}
use Rattle.sch_flat.proofs.part_sizes.FlatRuleMeasured.size.Goals as goal

pub returns : goal.returns
returns c =
    let rule = c.args.self.now in
    let first = flat_map let_events rule.lets in
    let last = flat_map assertion_events rule.assertions in
    c.rule_size.ensures rule.context rule.subject (first ++ last) c.text_len.ensures c.option_len.ensures (c.then-held.ensures first last c.size_of_all.ensures c.size_of_all-2.ensures)
