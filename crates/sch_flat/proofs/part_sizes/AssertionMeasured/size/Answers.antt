-- Its test, its subject and what it holds are known.
use Rattle.std.specs.List.{flat_map}
use Rattle.sch_flat.specs.FlatDocument.{part_events}
use Rattle.sch_flat.proofs.part_sizes.AssertionMeasured.size.Goals as goal

pub returns : goal.returns
returns c =
    let assertion = c.args.self.now in
    c.assertion_size.ensures assertion.test assertion.subject (flat_map part_events assertion.message) c.text_len.ensures c.option_len.ensures c.size_of_all.ensures
