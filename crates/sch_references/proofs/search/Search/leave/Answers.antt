-- The rule goes to the end of the order, and the one below it is the topmost.
use Rattle.std.proofs.Common.{arith, refl}
use Rattle.sch_references.proofs.SortLemmas.{busy-end, busy-leave, leave-less}
use Rattle.sch_references.proofs.search.Search.leave.Goals as goal

pub returns-in-Some-clause-after : goal.returns-in-Some-clause-after
returns-in-Some-clause-after c =
    busy-leave c.args.rules.now c.args.self.now (record { entered = c.args.self.now.entered; order = c.add.new.self; below = c.pop.new.self }) c.args.top c.in-Some.frame
    c.requires.busy c.requires.over c.in_ok-add.ensures refl c.in-Some.ensures.items

pub returns-in-Some-clause-less : goal.returns-in-Some-clause-less
returns-in-Some-clause-less c =
    leave-less c.args.rules.now c.args.self.now (record { entered = c.args.self.now.entered; order = c.add.new.self; below = c.pop.new.self }) c.args.top c.in-Some.frame refl c.in-Some.ensures.items

pub returns-in-None-clause-after : goal.returns-in-None-clause-after
returns-in-None-clause-after c =
    busy-end c.args.rules.now c.args.self.now (record { entered = c.args.self.now.entered; order = c.add.new.self; below = c.pop.new.self }) c.args.top
    c.requires.busy c.requires.over c.in_ok-add.ensures refl
    (omega (arith, c.in-None.ensures.cases.0, c.args.self.now.below.ok)) (omega (arith, c.in-None.ensures.cases.1, c.pop.new.self.ok))
