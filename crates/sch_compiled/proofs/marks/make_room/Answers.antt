-- The marks more tell nothing.
use Rattle.std.proofs.Common.{◌≤◌, length, rules, arith}
use Rattle.sch_compiled.proofs.FindingsLemmas.{same_items}
use Rattle.sch_compiled.proofs.marks.make_room.Goals as goal

pub returns-clause-same : goal.returns-clause-same
returns-clause-same c = λ place.
    let few : length c.args.marks.now.items ≤ c.args.count = omega arith in
    same_items 0 _ (λ f x g k. search rules) c.args.count c.args.marks.now.items c.resize_with.new.self.items _ few c.in_ok-resize_with.ensures.items place
