use Rattle.std.proofs.Common.{◌∙◌, ap, sym, length}
use Rattle.xp_outcome.specs.inner.Trimming.{ends_empty}
use Rattle.xp_outcome.proofs.SlotLemmas.{one_dropped, none_dropped}
use Rattle.xp_outcome.proofs.slots.trim.Goals as goal

pub loop-slots-preserved : goal.loop-slots-preserved
loop-slots-preserved g c =
    one_dropped c.loop-slots.slots.items c.pop.new.self.items _ (ap length (sym c.deref.ensures.value) ∙ c.deref.ensures.len) (sym c.loop-slots-test.true ∙ c.ends_empty.ensures ∙ ap ends_empty c.deref.ensures.value) c.pop.ensures.rest
    ∙ c.loop-slots.invariant

pub loop-slots-preserved-in-loop-slots-2 : goal.loop-slots-preserved-in-loop-slots-2
loop-slots-preserved-in-loop-slots-2 g c =
    one_dropped c.loop-slots.slots.items c.pop.new.self.items _ (ap length (sym c.deref.ensures.value) ∙ c.deref.ensures.len) (sym c.loop-slots-test.true ∙ c.ends_empty.ensures ∙ ap ends_empty c.deref.ensures.value) c.pop.ensures.rest
    ∙ c.loop-slots.invariant

pub returns : goal.returns
returns g c =
    sym (none_dropped c.loop-slots.slots.items (sym c.loop-slots-test.false ∙ c.ends_empty.ensures ∙ ap ends_empty c.deref.ensures.value)) ∙ c.loop-slots.invariant
