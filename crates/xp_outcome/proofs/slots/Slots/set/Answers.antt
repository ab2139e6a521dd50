use Rattle.std.proofs.Common.{sym, subst}
use Rattle.std.specs.Prelude.{Some, slice_set}
use Rattle.xp_outcome.specs.Slots.{IsTrimmed}
use Rattle.xp_outcome.proofs.SlotLemmas.{put_trimmed}
use Rattle.xp_outcome.proofs.slots.Slots.set.Goals as goal

pub invariant_of-self-2 : goal.invariant_of-self-2
invariant_of-self-2 g c =
    subst (λ slots. IsTrimmed (slice_set slots c.args.slot (Some c.args.value))) (sym c.in_ok-reach.ensures.reached)
    (put_trimmed c.self.inside.slots.items c.args.slot c.args.value c.self.invariant)
