use Rattle.std.proofs.Common.{take, sym, ap, ◌∙◌}
use Rattle.xp_outcome.specs.Slots.{trimmed}
use Rattle.xp_outcome.proofs.SlotLemmas.{trimmed_once}
use Rattle.xp_outcome.proofs.slots.Slots.cut.Goals as goal

pub invariant_of-self : goal.invariant_of-self
invariant_of-self g c = ap trimmed c.trim.ensures ∙ trimmed_once c.truncate.new.self.items ∙ sym c.trim.ensures
