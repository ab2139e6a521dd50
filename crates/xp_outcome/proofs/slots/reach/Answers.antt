use Rattle.std.proofs.Common.{None, rules, arith, ◌+◌}
use Rattle.xp_outcome.proofs.SlotLemmas.{lengthened}
use Rattle.xp_outcome.proofs.slots.reach.Goals as goal

pub returns-clause-reached : goal.returns-clause-reached
returns-clause-reached g c =
    lengthened _ None (λ f x h k. search rules) _ _ _ (c.args.slot + 1) (omega arith) (search rules) c.in_ok-resize_with.ensures.items
