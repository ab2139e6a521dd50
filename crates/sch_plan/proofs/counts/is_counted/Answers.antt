use Rattle.std.proofs.Common.{arith}
use Rattle.sch_plan.proofs.CountLemmas.{counted-from}
use Rattle.sch_plan.proofs.counts.is_counted.Goals as goal

pub returns : goal.returns
returns c =
    λ t. counted-from c.args.plan.now c.len-lets.result c.len-lets.ensures (omega arith) (omega arith) (rw c.as_slice.ensures at (c.are_patterns_counted.ensures t))
