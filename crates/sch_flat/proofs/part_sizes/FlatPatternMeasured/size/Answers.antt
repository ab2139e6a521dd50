-- What is held in two parts.
use Rattle.std.proofs.Common.{◌++◌}
use Rattle.std.specs.List.{flat_map}
use Rattle.sch_flat.specs.FlatDocument.{let_events, rule_events}
use Rattle.sch_flat.proofs.part_sizes.FlatPatternMeasured.size.Goals as goal

pub returns : goal.returns
returns c =
    let first = flat_map let_events c.args.self.now.lets in
    let last = flat_map rule_events c.args.self.now.rules in
    c.pattern_size.ensures (first ++ last) (c.then-held.ensures first last c.size_of_all.ensures c.size_of_all-2.ensures)
