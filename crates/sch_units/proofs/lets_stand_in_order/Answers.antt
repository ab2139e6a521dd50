use Rattle.std.proofs.Common.{length, [], ◌∙◌, zero-add}
use Rattle.sch_units.proofs.LetsInOrder.{length-lets_from, next_slot, stands_first}
use Rattle.sch_units.proofs.lets_stand_in_order.Goals as goal

pub returns : goal.returns
returns c = record {
  count = λ plan T. length-lets_from T [] plan.lets ∙ zero-add (length plan.lets);
  under = λ plan T slot t there. stands_first T plan.lets slot t there;
  next = next_slot;
}
